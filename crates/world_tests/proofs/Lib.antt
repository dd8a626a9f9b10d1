mod Clients
