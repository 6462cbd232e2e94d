-- The report, byte for byte: "Lines and fields are parted as in the text. In order: `commit entry job update`, ..;
-- B lines `block` ..; `open job status` ..; `end number line`". Assumes nothing.
use Rattle.std.specs.Prelude.{ℕ, zero, suc, ◌+◌, cond, List, [], ◌∷◌, ◌++◌, ℤ, pos, negsuc}
use Rattle.spec_text.specs.Bytes.{bytes}
use Rattle.spec_text.specs.Decimal.{decimal}
use Rattle.spec_text.specs.WrittenLines.{fields_behind, line_of}
use Rattle.spec_format.specs.declared.Entry.{Entry}
use Rattle.spec_format.specs.Plan.{Plan}
use Rattle.spec_format.specs.Faults.{number_of}
use Rattle.spec_report.specs.declared.End.{End}
use Rattle.spec_machine.specs.Memory.{Commit, job_of, update_of}
use Rattle.spec_machine.specs.Places.{is_active}
use Rattle.spec_machine.specs.Machine.{Machine, shared_in, work_of, seen}
use Rattle.spec_machine.specs.Entries.{refusal_number}
use Rattle.spec_machine.specs.History.{commits_in, Run}

-- No number of the table is larger.
abbrev pub largest_number : ℕ
largest_number = 17

-- The number that an end has in the table: "Acceptance is 0."
abbrev pub end_number : End → ℕ
end_number (End.Accepted n) = 0
end_number (End.Faulty f n) = number_of f
end_number (End.Refused r i n) = refusal_number r
end_number End.NoRoom = 15

-- The line that an end has: "number 0 with the count of all lines, or the refusal and its line"; 15 has line 0.
abbrev pub end_line : End → ℕ
end_line (End.Accepted n) = n
end_line (End.Faulty f n) = n
end_line (End.Refused r i n) = n
end_line End.NoRoom = 0

-- The number of the entry that is refused, counted from 1; 0 where none is.
abbrev pub end_entry : End → ℕ
end_entry (End.Accepted n) = 0
end_entry (End.Faulty f n) = 0
end_entry (End.Refused r i n) = i
end_entry End.NoRoom = 0

-- A status, "−1 printed as `-1`".
abbrev pub status_bytes : ℤ → List ℕ
status_bytes (pos n) = decimal n
status_bytes (negsuc n) = 45 ∷ decimal (n + 1)

-- What f gives at 0, 1, .., n − 1, one behind the other.
abbrev pub joined : ℕ → (ℕ → List ℕ) → List ℕ
joined zero f = []
joined (suc n) f = joined n f ++ f n

-- "`commit entry job update`, entries counted from 1, in commit order".
abbrev pub commit_lines : List Entry → List Commit → List ℕ
commit_lines es [] = []
commit_lines es (c ∷ cs) =
    line_of (bytes "commit") (c.entry ∷ job_of es c.call ∷ update_of es c.call ∷ []) ++ commit_lines es cs

-- "B lines `block` with the words seen through the bank".
abbrev pub block_lines : Plan → Machine → List ℕ
block_lines plan m = joined plan.sizes.blocks (λ b. line_of (bytes "block") (seen plan m b))

-- "`open job status`" for job k, where it is active.
abbrev pub open_line : Plan → Machine → ℕ → List ℕ
open_line plan m k =
    cond (is_active (work_of m k).place)
    (bytes "open" ++ fields_behind (decimal k ∷ status_bytes ((shared_in plan m).stat k) ∷ []))
    []

-- "`open job status` for each active job, by job number".
abbrev pub open_lines : Plan → Machine → List ℕ
open_lines plan m = joined plan.sizes.jobs (open_line plan m)

-- "`end number line`".
abbrev pub report_end : End → List ℕ
report_end e = line_of (bytes "end") (end_number e ∷ end_line e ∷ [])

-- The report of a run that ends so.
unfoldable pub report : Plan → List Entry → Run → End → List ℕ
report plan es r e =
    commit_lines es (commits_in r.history)
    ++ (block_lines plan r.machine ++ (open_lines plan r.machine ++ report_end e))
