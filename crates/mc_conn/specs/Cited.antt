-- Words of the crates below that this crate's contracts cite: passed on, so that a crate above that
-- calls only this one needs no other.
pub use Rattle.mc_read.specs.Reading.{ReadsAs, ReadsOn, ends_stream}
pub use Rattle.mc_write.specs.Text.{text}
