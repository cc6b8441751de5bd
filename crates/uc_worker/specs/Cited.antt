-- Words of the crates below that this crate's contracts cite: passed on, so that a crate above that
-- calls only this one needs no other.
pub use Rattle.uc_cells.specs.Sighting.{Sighting, entries}
pub use Rattle.uc_log.specs.Passes.{next_entry}
pub use Rattle.uc_places.specs.SeatLaw.{SeatLaw}
pub use Rattle.uc_places.specs.declared.view.View.{View}
