mod Knowing
mod Numbers
mod Beginning
mod Taken
mod Crossing
