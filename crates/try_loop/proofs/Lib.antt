mod Served
mod Asking
