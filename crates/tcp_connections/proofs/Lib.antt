mod ArrivalLemmas
