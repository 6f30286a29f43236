mod FewWords
mod Limits
mod Numbers
