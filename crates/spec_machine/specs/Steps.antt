-- The step list of document 01, one clause an item, in its order and with its labels. An item reads the shared cells
-- and the running job's working record, and gives that job's next record and at most one store to a shared cell.
-- Machine.antt says how a store is carried out, Moves.antt which reads and writes a move has. `cond t x y` is x where t
-- holds, and else y. Assumes nothing.
use Rattle.std.specs.Prelude.{ℕ, zero, suc, ◌+◌, ◌%◌, Bool, true, false, cond, not, ◌&&◌, ◌||◌, List, [], ◌∷◌, ◌++◌}
use Rattle.std.specs.Prelude.{eqb, ltb, ℤ, pos, get_or}
use Rattle.spec_text.specs.FirstPlaces.{in_first_places}
use Rattle.spec_format.specs.Plan.{Plan, job_in}
use Rattle.spec_machine.specs.declared.Stage.{Stage}
use Rattle.spec_machine.specs.declared.Place.{Place}
use Rattle.spec_machine.specs.declared.Version.{Version}
use Rattle.spec_machine.specs.declared.Working.{Working}
use Rattle.spec_machine.specs.declared.Store.{Store}
use Rattle.spec_machine.specs.declared.Out.{Out}
use Rattle.spec_machine.specs.Status.{same_status, undecided, job_named}
use Rattle.spec_machine.specs.Moves.{word_written, after_list, begin, move, access, block, offset, onward}
use Rattle.spec_machine.specs.Working.{
  goto,
  with_round,
  with_lid,
  with_hid,
  with_wid,
  with_ver,
  with_next,
  taking,
  with_word,
  listing,
  copying,
  cleared,
  with_copy,
  with_row,
  with_line,
  next_block,
}

-- The shared cells as an item reads them: V, Ann[R], Stat[k], Trans[k] and Bank[b]; of job k's row the count and, at
-- place i, the address, old and new block number; and word i of block number b.
pub record Shared : Type 0 where
  pub v : Version
  pub ann : ℕ → ℕ
  pub stat : ℕ → ℤ
  pub trans : ℕ → ℕ
  pub bank : ℕ → ℕ
  pub numblks : ℕ → ℕ
  pub addrlist : ℕ → ℕ → ℕ
  pub oldlist : ℕ → ℕ → ℕ
  pub newlist : ℕ → ℕ → ℕ
  pub blk : ℕ → ℕ → ℕ

-- An item that stores nothing.
abbrev pub quiet : Working → Out
quiet w = record { work = w; store = Store.Nothing; done = false }

-- An item that stores.
abbrev pub storing : Store → Working → Out
storing s w = record { work = w; store = s; done = false }

-- H25, H41 or H42 done: its condition holds, and it stores.
abbrev pub doing : Store → Working → Out
doing s w = record { work = w; store = s; done = true }

-- Whether two flags are the same.
abbrev pub same_flag : Bool → Bool → Bool
same_flag true b = b
same_flag false b = not b

-- V = ver: the count and the flag are the same.
unfoldable pub same_version : Version → Version → Bool
same_version v ver = eqb v.count ver.count && same_flag v.flag ver.flag

-- The count after a count.
abbrev pub next_count : ℕ → ℕ
next_count count = count + 1

-- The replaced block numbers, in listing order: of the first n listed blocks, the old numbers of those written.
abbrev pub replaced : (ℕ → ℕ) → (ℕ → ℕ) → List ℕ → ℕ → List ℕ
replaced addr old dirty zero = []
replaced addr old dirty (suc n) =
    replaced addr old dirty n ++ cond (eqb (get_or dirty (addr n) 0) 2) (old n ∷ []) []

-- The step list for a plan, with the shared cells as they are, for job p.
module _ (plan : Plan) (s : Shared) (p : ℕ) where
  -- R, the card of job p.
  abbrev pub card : ℕ
  card = (job_in plan p).card

  -- "N also stands for "none"": whether a job number is N.
  abbrev pub is_none : ℕ → Bool
  is_none k = eqb k plan.sizes.jobs

  -- Stat[k] = N.
  abbrev pub is_finished : ℕ → Bool
  is_finished k = same_status (s.stat k) (pos plan.sizes.jobs)

  -- Stat[k] = −1.
  abbrev pub is_undecided : ℕ → Bool
  is_undecided k = same_status (s.stat k) undecided

  -- "the counter points at card count mod P".
  abbrev pub points_at : ℕ → ℕ
  points_at count = count % plan.sizes.cards

  -- A10's hid: Ann[(count + 1) mod P].
  abbrev pub next_helped : Working → ℕ
  next_helped w = s.ann (points_at (next_count w.ver.count))

  -- The job that wid names, whose row is read.
  abbrev pub winner : Working → ℕ
  winner w = job_named w.wid

  -- The copy list after H25 is done: the replaced block numbers take its first places.
  abbrev pub reclaimed : Working → List ℕ
  reclaimed w = in_first_places (replaced (s.addrlist p) (s.oldlist p) w.dirty w.numblks) w.copy

  -- The condition of a check and of H25: V = ver and Stat[hid] = −1.
  abbrev pub may_decide : Working → Bool
  may_decide w = same_version s.v w.ver && is_undecided w.hid

  -- The condition of H41: V = ver and the bank entry is old.
  abbrev pub may_store : Working → Bool
  may_store w = same_version s.v w.ver && eqb (s.bank w.addr) w.old

  -- The condition of H42: V = ver and Stat[hid] = wid.
  abbrev pub may_commit : Working → Bool
  may_commit w = same_version s.v w.ver && same_status (s.stat w.hid) w.wid

  -- After a check that fails, or H25 not done: to H32, the marks cleared.
  abbrev pub given_up : Working → Working
  given_up w = goto Place.H32 (cleared w)

  -- After H25 is done: to H32 with the reclaimed copy list, the marks cleared.
  abbrev pub after_deciding : Working → Working
  after_deciding w = goto Place.H32 (cleared (with_copy (reclaimed w) w))

  -- After H41: on to the next listed block, or to H42 after the last.
  abbrev pub after_store : Working → Working
  after_store w = goto (cond (ltb (w.j + 1) w.numblks) Place.H36 Place.H42) (next_block w)

  -- The stages of a read (check, list, take) and of a write (check, list, copy, write).
  unfoldable pub stage : Stage → Working → Out
  -- Check: if V differs from ver or Stat[hid] is not −1, clear the marks, go to H32.
  stage Stage.Check w = cond (may_decide w) (quiet (goto (Place.Move Stage.List) w)) (quiet (given_up w))
  -- List the block with its bank number if not yet listed (else the step changes nothing).
  stage Stage.List w = cond (eqb (get_or w.dirty (block plan w) 0) 0)
      (storing (Store.Listed w.numblks (block plan w) (s.bank (block plan w)))
      (goto (Place.Move (after_list (access plan w))) (listing (block plan w) (s.bank (block plan w)) w)))
      (quiet (goto (Place.Move (after_list (access plan w))) w))
  -- On the block's first write copy it into p's next copy block (else nothing).
  stage Stage.Copy w = cond (eqb (get_or w.dirty (block plan w) 0) 2)
      (quiet (goto (Place.Move Stage.Write) w))
      (storing (Store.Block (get_or w.curr (block plan w) 0) (get_or w.copy w.dirtycnt 0))
      (goto (Place.Move Stage.Write) (copying (block plan w) (get_or w.copy w.dirtycnt 0) w)))
  -- Take the word, from the block's copy once this run has made one.
  stage Stage.Take w = quiet (onward plan (with_word (s.blk (get_or w.curr (block plan w) 0) (offset plan w)) w))
  -- Write the word in that copy.
  stage Stage.Write w =
      storing (Store.Word (get_or w.curr (block plan w) 0) (offset plan w) (word_written (move plan w) w.word))
      (onward plan w)

  -- An item.
  unfoldable pub item : Place → Working → Out
  -- A job that is not active has none.
  item Place.Idle w = quiet w
  -- A1: Trans[p] becomes the update.
  item Place.A1 w = storing (Store.Trans p w.update) (goto Place.A2 w)
  -- A2: Stat[p] becomes −1, round 0.
  item Place.A2 w = storing (Store.Stat p undecided) (goto Place.A4 (with_round 0 w))
  -- A4: lid := Ann[R]; if N go to A14, else A7.
  item Place.A4 w = cond (is_none (s.ann card))
      (quiet (goto Place.A14 (with_lid (s.ann card) w)))
      (quiet (goto Place.A7 (with_lid (s.ann card) w)))
  -- A7 (7 and 8 together): ver := V. If Stat[lid] = N and (ver points elsewhere or its flag is false), A14. Else with
  -- flag true H16, with false A10.
  item Place.A7 w = cond (is_finished w.lid && (not (eqb (points_at s.v.count) card) || not s.v.flag))
      (quiet (goto Place.A14 (with_ver s.v w)))
      (cond s.v.flag (quiet (goto Place.H16 (with_ver s.v w))) (quiet (goto Place.A10 (with_ver s.v w))))
  -- A10 (10 and 11 together): hid := Ann[(count + 1) mod P]; new flag true exactly if hid and Stat[hid] are not N.
  item Place.A10 w =
      quiet
      (goto Place.A12
      (with_next (not (is_none (next_helped w)) && not (is_finished (next_helped w))) (with_hid (next_helped w) w)))
  -- A12: if V = ver, V becomes (count + 1, new flag). To A7.
  item Place.A12 w = cond (same_version s.v w.ver)
      (storing (Store.Version (next_count w.ver.count) w.next) (goto Place.A7 w))
      (quiet (goto Place.A7 w))
  -- A14: Ann[R] := p. Round 0: round 1, to A4. Round 1: to A15.
  item Place.A14 w = cond (eqb w.round 0)
      (storing (Store.Ann card p) (goto Place.A4 (with_round 1 w)))
      (storing (Store.Ann card p) (goto Place.A15 w))
  -- A15: Ann[R] := N, job no longer active (its return).
  item Place.A15 w = storing (Store.Ann card plan.sizes.jobs) (goto Place.Idle w)
  -- H16: hid := Ann[count mod P].
  item Place.H16 w = quiet (goto Place.H17 (with_hid (s.ann (points_at w.ver.count)) w))
  -- H17: Stat[hid] = N to A10; −1 to H21; else H32.
  item Place.H17 w = cond (is_finished w.hid)
      (quiet (goto Place.A10 w))
      (cond (is_undecided w.hid) (quiet (goto Place.H21 w)) (quiet (goto Place.H32 w)))
  -- H21: take the update Trans[hid]; no blocks listed, no copy block used. Then its moves, then H22.
  item Place.H21 w =
      quiet (goto (begin (get_or plan.updates (s.trans w.hid) [])) (taking (s.trans w.hid) w))
  -- Reading a word, three steps: check; list; take. Writing, four: check; list; copy; write.
  item (Place.Move st) w = stage st w
  -- H22: publish the new block numbers of all listed blocks (a block only read keeps its old one) and their count.
  item Place.H22 w = storing Store.Published (goto Place.H25 w)
  -- H25: if V = ver and Stat[hid] = −1, Stat[hid] := p (the update is now decided) and the replaced block numbers, in
  -- listing order, take the first places of p's copy list. In either case clear the marks.
  item Place.H25 w = cond (may_decide w)
      (doing (Store.Stat w.hid (pos p)) (after_deciding w))
      (quiet (given_up w))
  -- H32: wid := Stat[hid]; −1 or N to A10.
  item Place.H32 w = cond (is_undecided w.hid || is_finished w.hid)
      (quiet (goto Place.A10 (with_wid (s.stat w.hid) w)))
      (quiet (goto Place.H34 (with_wid (s.stat w.hid) w)))
  -- H34: count n of wid's row; none to H42.
  item Place.H34 w = cond (eqb (s.numblks (winner w)) 0)
      (quiet (goto Place.H42 (with_row (s.numblks (winner w)) w)))
      (quiet (goto Place.H36 (with_row (s.numblks (winner w)) w)))
  -- For each listed block: H36, V not ver, to A10.
  item Place.H36 w = cond (not (same_version s.v w.ver))
      (quiet (goto Place.A10 w))
      (quiet (goto Place.H37 w))
  -- H37, Stat[hid] = N, to A10.
  item Place.H37 w = cond (is_finished w.hid) (quiet (goto Place.A10 w)) (quiet (goto Place.H38 w))
  -- H38, read wid's address, old, new.
  item Place.H38 w =
      quiet
      (goto Place.H41
      (with_line (s.addrlist (winner w) w.j) (s.oldlist (winner w) w.j) (s.newlist (winner w) w.j) w))
  -- H41, if V = ver and the bank entry is old, it becomes new.
  item Place.H41 w = cond (may_store w)
      (doing (Store.Bank w.addr w.new) (after_store w))
      (quiet (after_store w))
  -- H42: if V = ver and Stat[hid] = wid, Stat[hid] := N (the commit). To A10.
  item Place.H42 w = cond (may_commit w)
      (doing (Store.Stat w.hid (pos plan.sizes.jobs)) (goto Place.A10 w))
      (quiet (goto Place.A10 w))
