mod Filling
mod Forwarding
