-- Words and what they stand for.
pub use Rattle.ir_parts.specs.Tables.{look_up}
