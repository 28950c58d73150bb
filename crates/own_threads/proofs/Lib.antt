mod Lists
mod NewFacts
mod Places
mod Promises
mod RecorderFacts
mod Resting
mod Taking
