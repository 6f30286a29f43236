mod Ends
mod Opening
mod Taking
