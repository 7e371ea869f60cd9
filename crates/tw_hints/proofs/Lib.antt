mod Joined
mod Newlines
mod Utf8
