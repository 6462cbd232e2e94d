-- What the notes on a schedule of records hold. Assumes nothing.
use Rattle.std.specs.Prelude.{◌≤◌, ◌≡◌, List, length}
use Rattle.spec_format.specs.declared.Entry.{Entry}
use Rattle.spec_format.specs.Faults.{most_entries}
use Rattle.spec_format.specs.Plan.{entries_in}
use Rattle.read_tables.specs.declared.Note.{Note}
use Rattle.read_tables.specs.Notes.{listed_in}

-- Notes hold these records, where they are not too many.
abbrev pub Noted : List Entry → List Note → Type 0
Noted es notes = length es ≤ most_entries → entries_in (listed_in notes) ≡ es
