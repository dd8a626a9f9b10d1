mod TidyingLemmas
