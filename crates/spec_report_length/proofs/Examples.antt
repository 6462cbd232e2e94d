-- The bound as a number, and of each kind of line one that is as long as the bound says, computed. Assumes nothing.
use mathlib.Core.Path.{◌≡◌, refl}
use mathlib.Core.List.{[], ◌∷◌, ◌++◌}
use lib.IntN.{negsuc}
use lib.ListN.{length, replicate}
use Rattle.spec_text.specs.Bytes.{bytes}
use Rattle.spec_text.specs.Decimal.{decimal}
use Rattle.spec_format.specs.declared.Fault.{Fault}
use Rattle.spec_report.specs.declared.End.{End}
use Rattle.spec_text.specs.WrittenLines.{fields_behind, line_of}
use Rattle.spec_report.specs.Report.{status_bytes, report_end}
use Rattle.spec_report_length.specs.Longest.{longest_commit, longest_block, longest_open, longest_end, longest_report}

-- The bound.
the_bound : longest_report ≡ 75101
the_bound = refl

-- The last entry of a full schedule commits a call of the last job and of the last update.
commit-reached : length (line_of (bytes "commit") (4000 ∷ 15 ∷ 31 ∷ [])) ≡ longest_commit
unfolding decimal
commit-reached = refl

-- A block of 16 words, each the largest.
block-reached : length (line_of (bytes "block") (replicate 16 4294967295)) ≡ longest_block
unfolding decimal
block-reached = refl

-- The last job is open, undecided.
open-reached : length (bytes "open" ++ fields_behind (decimal 15 ∷ status_bytes (negsuc 0) ∷ [])) ≡ longest_open
unfolding decimal
open-reached = refl

-- A fault of two digits, one line past the last that there can be.
end-reached : length (report_end (End.Faulty Fault.TooManyBlocks 65537)) ≡ longest_end
unfolding decimal
end-reached = refl
