mod Fitting
mod OneRow
mod Places
