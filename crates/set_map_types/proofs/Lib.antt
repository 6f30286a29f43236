mod Copied
mod FirstOfBoth
