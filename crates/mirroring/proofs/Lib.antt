mod Ahead
mod FirstList
mod Texts
mod Following
mod Pages
mod Replies
mod FirstTurns
