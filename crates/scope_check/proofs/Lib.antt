mod Parts
mod Walking
