-- How long a line of each kind can be in a report, where its numbers are in their ranges. Assumes nothing.
use Prim.Native.Nat.{ℕ, ◌+◌, ◌*◌, ◌≤◌, ◌<◌}
use mathlib.Core.List.{List, [], ◌∷◌, ◌++◌, map}
use native.Mathlib.Omega.{arith}
use lib.IntN.{ℤ, pos, negsuc}
use lib.ListN.{length, length-append}
use Rattle.spec_text.specs.Bytes.{bytes}
use Rattle.spec_text.specs.Decimal.{decimal}
use Rattle.spec_text.proofs.Digits.{decimal-within, decimal-most}
use Rattle.spec_format.specs.declared.Fault.{Fault}
use Rattle.spec_format.specs.Faults.{number_of}
use Rattle.spec_machine.specs.declared.Refusal.{Refusal}
use Rattle.spec_machine.specs.Entries.{refusal_number}
use Rattle.spec_machine.specs.Ranges.{StatusIn}
use Rattle.spec_report.specs.declared.End.{End}
use Rattle.spec_text.specs.WrittenLines.{fields_behind, line_of}
use Rattle.spec_report.specs.Report.{largest_number, end_number, end_line, status_bytes, report_end}
use Rattle.spec_report_length.specs.Longest.{longest_commit, longest_block, longest_open, longest_end}

-- Numbers behind tabs, and the line feed: at most eleven bytes for each, and one.
fields-short : (ns : List ℕ) → length (fields_behind (map decimal ns)) ≤ 11 * length ns + 1
fields-short [] = omega arith
fields-short (n ∷ ns) =
    omega (
      arith,
      length-append (decimal n) (fields_behind (map decimal ns)),
      decimal-most n,
      fields-short ns,
    )

-- A commit line of an entry of at most four digits, and a job and an update of at most two.
pub commit-short :
    (entry job update : ℕ) → entry < 10000 → job < 100 → update < 100
    → length (line_of (bytes "commit") (entry ∷ job ∷ update ∷ [])) ≤ longest_commit
commit-short entry job update e j u =
    simp length-append (omega (arith, decimal-within 3 entry e, decimal-within 1 job j, decimal-within 1 update u))

-- A block line of at most 16 words.
pub block-short : (words : List ℕ) → length words ≤ 16 → length (line_of (bytes "block") words) ≤ longest_block
block-short words h = omega (arith, fields-short words)

-- A status of a plan of at most 16 jobs has at most two characters.
status-short : (status : ℤ) → StatusIn 16 status → length (status_bytes status) ≤ 2
status-short (pos n) h = decimal-within 1 n (omega arith)
status-short (negsuc a) h = omega (arith, decimal-within 0 (a + 1) (omega arith))

-- An open line of a job of at most two digits.
pub open-short :
    (job : ℕ) (status : ℤ) → job < 100 → StatusIn 16 status
    → length (bytes "open" ++ fields_behind (decimal job ∷ status_bytes status ∷ [])) ≤ longest_open
open-short job status j s =
    simp length-append (omega (arith, decimal-within 1 job j, status-short status s))

-- The number of a fault.
fault-number : (f : Fault) → number_of f ≤ largest_number
fault-number Fault.TooLong = omega arith
fault-number Fault.Unknown = omega arith
fault-number Fault.Misplaced = omega arith
fault-number Fault.Malformed = omega arith
fault-number Fault.BadRun = omega arith
fault-number Fault.TooMany = omega arith
fault-number Fault.Misnumbered = omega arith
fault-number Fault.BadSize = omega arith
fault-number Fault.BadJob = omega arith
fault-number Fault.SameJob = omega arith
fault-number Fault.BadWord = omega arith
fault-number Fault.TooManyBlocks = omega arith

-- The number of a refusal of an entry.
refusal-number : (r : Refusal) → refusal_number r ≤ largest_number
refusal-number Refusal.NoSuch = omega arith
refusal-number Refusal.Active = omega arith
refusal-number Refusal.NoCard = omega arith
refusal-number Refusal.NoneActive = omega arith

-- The number of an end is one of the table.
pub end-number : (e : End) → end_number e ≤ largest_number
end-number (End.Accepted n) = omega arith
end-number (End.Faulty f n) = fault-number f
end-number (End.Refused r i n) = refusal-number r
end-number End.NoRoom = omega arith

-- An end line of a line of at most 65,537.
pub end_short : (e : End) → end_line e ≤ 65537 → length (report_end e) ≤ longest_end
end_short e h =
    let number : length (decimal (end_number e)) ≤ 2 = decimal-within 1 (end_number e) (omega (arith, end-number e)) in
    let line : length (decimal (end_line e)) ≤ 5 = decimal-within 4 (end_line e) (omega arith) in
    simp length-append (omega arith)
