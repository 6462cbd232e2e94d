-- The length in bytes that no report exceeds, as a sum over the parts of the report, in their order: so many lines of a
-- kind, each as long as its fields can be. It is a bound, and no report need be as long. proofs/Short.antt shows it of
-- every report. Assumes nothing.
use Rattle.std.specs.Prelude.{ℕ, ◌+◌, ◌*◌}
use Rattle.spec_format.specs.Faults.{most_entries}

-- The longest commit line, as `commit 4000 15 31`: an entry of four digits, a job and an update of two.
abbrev pub longest_commit : ℕ
longest_commit = 18

-- The longest block line: `block` and 16 words of ten digits, each behind a tab, and the line feed.
abbrev pub longest_block : ℕ
longest_block = 182

-- The longest open line, as `open 15 -1`: a job and a status of two characters each.
abbrev pub longest_open : ℕ
longest_open = 11

-- The longest end line, as `end 10 65537`: a number of two digits, a line of five.
abbrev pub longest_end : ℕ
longest_end = 13

-- An entry commits at most one call: at most 4,000 commit lines.
abbrev pub longest_commits : ℕ
longest_commits = most_entries * longest_commit

-- At most 16 blocks.
abbrev pub longest_blocks : ℕ
longest_blocks = 16 * longest_block

-- At most 16 jobs, each open or not.
abbrev pub longest_opens : ℕ
longest_opens = 16 * longest_open

-- The whole report: 4000 * 18 + (16 * 182 + (16 * 11 + 13)), which is 75,101.
abbrev pub longest_report : ℕ
longest_report = longest_commits + (longest_blocks + (longest_opens + longest_end))
