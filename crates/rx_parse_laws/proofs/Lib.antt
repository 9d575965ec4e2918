pub mod SameWords
pub mod TypesAgain
pub mod PatternsAgain
pub mod ExpressionsAgain
pub mod ItemsAgain
pub mod Texts
