mod SaidAlike
mod Brought
mod Told
mod RequestLaws
mod CallLaws
