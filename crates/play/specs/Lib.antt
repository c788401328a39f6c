-- What a play is held to: the judge's rules, and what a line of a script means.
pub mod Judge
pub mod Script
pub mod Tables
pub mod Dice
pub mod Tally
pub mod Texts
