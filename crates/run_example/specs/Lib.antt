pub mod Game
pub mod GameLaws
pub mod Sample
