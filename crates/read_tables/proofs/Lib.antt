-- Laws of plans and notes.
mod LastUpdate
