mod OneChange
mod Standing
