mod Deciding
mod KeptTypes
mod FewItems
mod Declared
mod TwoFunctions
mod OneNumbering
