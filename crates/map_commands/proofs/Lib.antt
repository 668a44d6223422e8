mod Mapped
mod Drawn
