mod Lifting
mod Routing
mod Parts
mod Beginning
