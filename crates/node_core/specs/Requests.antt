-- Requests of the shell.
pub use Rattle.api_block.specs.Requests.{asks_nothing, is_request}
