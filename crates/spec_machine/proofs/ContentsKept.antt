-- Every item of the step list keeps the third layer, and stores inside the arrays: each place is one of the changes of
-- ContentsFrame.antt, a small step of a run (AttemptSteps.antt), or changes nothing that the clauses read.
--
-- In plain words. H21 begins a run with no marks, because whoever leaves a run clears them. A check that fails
-- ends the run; one that holds, and listing, taking, copying and writing, lead on as the laws of a run say, and store
-- to the running job's own row and copy blocks alone. H22 publishes the row; H25 turns a fresh run at its end into the
-- decided update. H32 finds the decider past its deciding; H34 to H41 go through its row line by line, and H42 finds
-- all of it stored.
--
-- Assumes the first two layers, and a sound plan.
use Prim.Native.Nat.{ℕ, ◌+◌, ◌≤◌, ◌<◌, ◌%◌}
use mathlib.Core.Path.{◌≡◌, refl, sym, ◌∙◌, ap, subst, fun_ext}
use mathlib.Core.Logic.{◌≢◌, inl}
use mathlib.Core.Bool.{Bool, true, false, cond, not, true≢false, false≢true}
use mathlib.Core.List.{List, [], ◌∷◌}
use native.Mathlib.Omega.{arith}
use native.Mathlib.Nat.{mod-lt}
use native.Mathlib.Decide.{ℕ_discrete}
use lib.Dec.{eqb, ltb}
use lib.IntN.{ℤ, pos, negsuc}
use lib.ListN.{length, get_or}
use borrow.Author.Tests.{eqb-true, eqb-false, ltb-true, ltb-false, lt-ltb, not-true}
use Rattle.spec_format.specs.Plan.{Plan, tabulate}
use Rattle.spec_format.specs.Sound.{Sound}
use Rattle.spec_machine.specs.declared.Stage.{Stage}
use Rattle.spec_machine.specs.declared.Place.{Place}
use Rattle.spec_machine.specs.declared.Version.{Version}
use Rattle.spec_machine.specs.declared.Working.{Working}
use Rattle.spec_machine.specs.declared.Store.{Store}
use Rattle.spec_machine.specs.declared.Out.{Out}
use Rattle.spec_machine.specs.Places.{is_active}
use Rattle.spec_machine.specs.Status.{same_status, job_named}
use Rattle.spec_machine.specs.Moves.{access, after_list, move, block, offset, word_written, onward, begin}
use Rattle.spec_machine.specs.Working.{
  goto,
  called,
  with_access,
  with_word,
  with_row,
  taking,
  listing,
  copying,
  cleared,
  next_block,
}
use Rattle.spec_machine.specs.Steps.{
  Shared,
  quiet,
  storing,
  item,
  stage,
  replaced,
  winner,
  may_commit,
  after_deciding,
}
use Rattle.spec_machine.specs.Ranges.{StageOf, MoveInside}
use Rattle.spec_machine.proofs.ChangedAt.{upd, upd_same, upd_other, upd-at, upd-elim}
use Rattle.spec_machine.proofs.View.{
  Status,
  undecided,
  decided,
  finished,
  is_finished,
  is_undecided,
  status_in,
  Proper,
  Scene,
  State,
  showing,
  with_cells,
  with_rows,
  with_blocks,
  with_bank,
  after,
  published,
  undecided-is,
  undecided-means,
  decided-means,
  finished-means,
  same_true,
  decided≢finished,
}
use Rattle.spec_machine.proofs.Sizes.{Roomy, Fits}
use Rattle.spec_format.proofs.Tabulated.{length-tabulate}
use Rattle.spec_machine.proofs.Tests.{choice, either, shut-test, test, store-elim, and_l, and_r}
use Rattle.spec_machine.proofs.Tests.{or_l, or_r, same_version_lem, failed, stale}
use Rattle.spec_machine.proofs.SmallSteps.{Op, Op.check, Op.list, Op.copy, put, exec, ahead, Attempt, attempt, copy_of}
use Rattle.spec_machine.proofs.SmallSteps.{Layout, layout}
use Rattle.spec_machine.proofs.Attempts.{current, passed, took, lists, copies, seen, Shape, Own, Live}
use Rattle.spec_machine.proofs.AttemptSteps.{
  own-check,
  own-listed,
  own-list,
  own-take,
  own-copied,
  copy-lt,
  own-copy,
  own-write,
  written-own,
  Begun,
  own-begun,
  live-begun,
  live-passed,
  live-take,
  live-list,
  live-copy,
  live-write,
}
use Rattle.spec_machine.proofs.Settling.{listed_at, reclaim}
use Rattle.spec_machine.proofs.Pigeonhole.{at_most, fewer-listed}
use Rattle.spec_machine.proofs.ListsByPlace.{length-first-places}
use Rattle.spec_machine.proofs.Words.{word-free, shape-fits, room_fits}
use Rattle.spec_machine.proofs.AttemptsSeen.{
  rest,
  after_list_lem,
  after-copy,
  ahead-check,
  ahead-list,
  ahead-copy,
  ahead-take,
  ahead-write,
  onward-rest,
  begin-ahead,
  ahead-same,
  rest-same,
  inside-same,
  attempt-lists,
  attempt-copies,
  attempt-begun,
  roomy-same,
  roomy-listing,
  roomy-copying,
  roomy-cleared,
  clear-cleared,
  copy-reclaimed,
  length-replaced,
}
use Rattle.spec_machine.proofs.Cards.{start, phase_at, second, phase, announced, board, Runs, OnBoard, CardsHold}
use Rattle.spec_machine.proofs.Epochs.{
  kind,
  winner_of,
  wid-means,
  HelpHolds,
  ChiefGuard,
  FreshHolds,
  EpochsHold,
  chief-under,
}
use Rattle.spec_machine.proofs.Contents.{
  Ghost,
  ghost_stat,
  ghost,
  elsewhere,
  deciding,
  first,
  looping,
  last,
  part,
  PastKind,
  Past,
  Clear,
  OwnAt,
  head,
  PutOk,
  LiveAt,
  Olds,
  Published,
  LineRead,
  Reading,
  FreshContents,
  JobContents,
  Settled,
  ContentsHold,
}
use Rattle.spec_machine.proofs.ContentsFrame.{
  past-keeps,
  keeps-plain,
  none-decided,
  stock-now,
  keeps-row,
  keeps-block,
  skip,
  put_next,
  keeps-bank,
  keeps-commit,
  keeps-decide,
  keeps-turn,
  bank-numbers,
  copy-numbers,
}

-- What is neither −1 nor N is decided by the job that it names.
decided-else :
    (n : ℕ) (x : ℤ) → same_status x (negsuc 0) ≡ false → same_status x (pos n) ≡ false
    → status_in n x ≡ decided (job_named x)
unfolding status_in
decided-else n x u f = rw (u, f)

module _ (plan : Plan) (ok : Sound plan) (sh : Shared) (job : ℕ → Working)
    (C : CardsHold (layout plan) (record { sh = showing plan sh; job = job }))
    (D : EpochsHold (layout plan) (record { sh = showing plan sh; job = job })) (g : Ghost)
    (E : ContentsHold plan (record { sh = showing plan sh; job = job }) g) (p : ℕ)
    (R : Runs (layout plan) (board (record { sh = showing plan sh; job = job })) p) where
  -- The plan as the clauses read it.
  abbrev P : Layout
  P = layout plan

  -- The state before the item.
  abbrev s : State
  s = record { sh = showing plan sh; job = job }

  -- V.
  abbrev v : Version
  v = sh.v

  -- The statuses.
  abbrev stat : ℕ → Status
  stat = s.sh.stat

  -- The contents of the block numbers.
  abbrev blk : ℕ → ℕ → ℕ
  blk = s.sh.blk

  -- The chief.
  abbrev h : ℕ
  h = head plan s.sh g job

  -- The running job is one of the plan's.
  p<N : p < P.jobs
  p<N = C.whole.in-plan p R.up

  -- What the item gives keeps the layer and stays inside the arrays.
  pub record Good (o : Out) : Type 0 where
    pub kept : ContentsHold plan (after plan p o s) (ghost plan s.sh o.store g)
    pub fits : Fits plan o.work o.store

  -- A store to a status, by what it means.
  means :
      (q : ℕ) (x : ℤ) (y : Status) (w : Working) (d : Bool) → status_in plan.sizes.jobs x ≡ y
      → Fits plan w (Store.Stat q x)
      → ContentsHold plan (record { sh = with_cells sh.ann (upd stat q y) sh.trans s.sh; job = upd job p w })
      (ghost_stat P sh.trans q y g) → Good (record { work = w; store = Store.Stat q x; done = d })
  means q x y w d e f c =
      record {
        kept =
            subst (λ z. ContentsHold plan
            (record { sh = with_cells sh.ann (upd stat q z) sh.trans s.sh; job = upd job p w })
            (ghost_stat P sh.trans q z g)) (sym e) c;
        fits = f;
      }

  -- Nothing is stored: the clauses of the running job are asked.
  still :
      (w : Working) → w.copy ≡ (job p).copy → (Past v (job p) → Past v w) → JobContents plan s.sh g (upd job p w) p w
      → Good (quiet w)
  still w cp pp own =
      record {
        kept =
            keeps-plain plan s D g E p sh.ann stat sh.trans w cp pp (λ _. refl) (λ _. refl) (λ _. refl)
            (λ q x e. (e, refl)) (λ q x e. e) own;
        fits = tt;
      }

  -- A record with the marks and numbers of another.
  roomy-as :
      (w : Working) → w.dirty ≡ (job p).dirty → w.curr ≡ (job p).curr → w.copy ≡ (job p).copy → Roomy w
  roomy-as w d c e = roomy-same (job p) w d c e (E.each p).roomy

  -- The running job is past its deciding and stays so.
  past-on :
      (w : Working) → w.ver ≡ (job p).ver → is_active w.place ≡ true → PastKind (kind w.place) → Past v (job p)
      → Past v w
  past-on w e a k q = record { up = a; fresh = e ∙ q.fresh; past = k }

  -- p has just begun its call: it is not the chief, and it is not decided.
  module _ (ep : phase (job p) ≡ start) (fp : is_finished (stat p) ≡ true) where
    -- It is not the chief.
    not-chief : v.flag ≡ true → h ≢ p
    not-chief f z =
        true≢false (sym (C.whole.named-announced (v.count % P.cards) (D.whole.named f)).1
        ∙ ap (λ k. announced (phase (job k))) z ∙ ap announced ep)

    -- It is not decided.
    not-mine : (q w : ℕ) → stat q ≡ decided w → q ≢ p
    not-mine q w e z = false≢true (sym (ap is_finished (ap stat (sym z) ∙ e)) ∙ fp)

    -- A1.
    keeps-A1 :
        (u : ℕ) (w : Working) → w.copy ≡ (job p).copy → (Past v (job p) → Past v w)
        → JobContents plan (with_cells sh.ann stat (upd sh.trans p u) s.sh) g (upd job p w) p w
        → Good (storing (Store.Trans p u) w)
    keeps-A1 u w cp pp own =
        record {
          kept =
              keeps-plain plan s D g E p sh.ann stat (upd sh.trans p u) w cp pp (λ _. refl) (λ _. refl)
              (λ f. upd_other sh.trans p u h (not-chief f))
              (λ q x e. (e, upd_other sh.trans p u q (not-mine q x e))) (λ q x e. e) own;
          fits = let l = p<N in let m = ok.jobs in omega arith;
        }

    -- A2.
    keeps-A2 :
        (w : Working) → w.copy ≡ (job p).copy → (Past v (job p) → Past v w)
        → JobContents plan (with_cells sh.ann (upd stat p undecided) sh.trans s.sh) g (upd job p w) p w
        → Good (storing (Store.Stat p (negsuc 0)) w)
    keeps-A2 w cp pp own =
        means p (negsuc 0) undecided w false (undecided-means plan.sizes.jobs)
        (let l = p<N in let m = ok.jobs in omega arith, tt)
        (keeps-plain plan s D g E p sh.ann (upd stat p undecided)
        sh.trans w cp pp (λ _. refl) (λ f. upd_other stat p undecided h (not-chief f)) (λ _. refl)
        (λ q x. upd-elim (λ y. y ≡ decided x → (stat q ≡ decided x) × (sh.trans q ≡ sh.trans q)) stat p undecided q
        (λ _ e. let z : ◌≡◌ {A = ℕ} 0 1 = cc in absurd (omega arith)) (λ _ e. (e, refl)))
        (λ q x e. upd_other stat p undecided q (not-mine q x e) ∙ e) own)

  -- A14 and A15.
  keeps-announcement :
      (v.flag ≡ true → P.card p ≡ v.count % P.cards → P.prio h ≤ P.prio p → ⊥) → (x : ℕ) (w : Working)
      → w.copy ≡ (job p).copy → (Past v (job p) → Past v w)
      → JobContents plan (with_cells (upd sh.ann (P.card p) x) stat sh.trans s.sh) g (upd job p w) p w
      → Good (storing (Store.Ann (P.card p) x) w)
  keeps-announcement shut x w cp pp own =
      record {
        kept =
            keeps-plain plan s D g E p (upd sh.ann (P.card p) x) stat sh.trans w cp pp
            (λ f. upd_other sh.ann (P.card p) x (v.count % P.cards)
            (λ e. shut f (sym e) (chief-under P s C D p R f (sym e)))) (λ _. refl) (λ _. refl) (λ q y e. (e, refl))
            (λ q y e. e) own;
        fits = let l : P.card p < P.cards = ok.on_card p p<N in let m = ok.cards in omega arith;
      }

  -- To a place outside of runs and rows: no marks.
  module _ (sh' : Scene) (g' : Ghost) (J' : ℕ → Working) (w : Working) (r : Roomy w) (c : Clear w) where
    -- Its clauses.
    plain-contents : part w.place ≡ elsewhere → JobContents plan sh' g' J' p w
    plain-contents e = record { roomy = r; own = rw e c; fresh = λ _ _. rw e tt }

  -- The same, nothing stored.
  rests :
      (w : Working) → part w.place ≡ elsewhere → w.copy ≡ (job p).copy → w.dirty ≡ (job p).dirty
      → w.curr ≡ (job p).curr → Clear (job p) → (Past v (job p) → Past v w) → Good (quiet w)
  rests w e cp d cu c pp =
      still w cp pp
      (plain-contents s.sh g (upd job p w) w (roomy-as w d cu cp) (subst (λ l. (b : ℕ) → get_or l b 0 ≡ 0) (sym d) c)
      e)

  -- The same, the marks cleared.
  clears :
      (w : Working) → part w.place ≡ elsewhere → w.copy ≡ (job p).copy → w.dirty ≡ (cleared (job p)).dirty
      → w.curr ≡ (job p).curr → (Past v (job p) → Past v w) → Good (quiet w)
  clears w e cp d cu pp =
      still w cp pp
      (plain-contents s.sh g (upd job p w) w
      (roomy-same (cleared (job p)) w d cu cp (roomy-cleared (job p) (E.each p).roomy))
      (subst (λ l. (b : ℕ) → get_or l b 0 ≡ 0) (sym d) (clear-cleared (job p)))
      e)

  -- Inside a run: the running job is no decider.
  module _ (np : Past v (job p) → ⊥) where
    -- The addresses of its row.
    abbrev addr : ℕ → ℕ
    addr = sh.addrlist p

    -- A small step that stores nothing, to a stage of a move.
    goes_on :
        (st : Stage) (w : Working) (os : List Op) → w.copy ≡ (job p).copy → Roomy w
        → MoveInside plan st (goto (Place.Move st) w) → ahead plan st (goto (Place.Move st) w) ≡ os
        → Own P (copy_of (job p)) (attempt os addr w)
        → (w.ver ≡ v → v.flag ≡ true → is_undecided (stat h) ≡ true
        → Live P (P.ops (sh.trans h)) g.mem sh.bank blk (copy_of (job p)) (attempt os addr w) × Olds plan
        s.sh g job p w) → Good (quiet (goto (Place.Move st) w))
    goes_on st w os cp r i e o L =
        still (goto (Place.Move st) w) cp (λ q. absurd (np q))
        (record {
          roomy = record { dirty = r.dirty; curr = r.curr; copy = r.copy };
          own = (i, rw (e, cp) o);
          fresh = λ z f u. rw (e, cp) (L z f u);
        })

    -- A run lists at most all blocks.
    few-listed : (os : List Op) (w : Working) → Own P (copy_of (job p)) (attempt os addr w) → w.numblks ≤ P.blocks
    few-listed os w o =
        rw (length-tabulate w.numblks addr) at
        (at_most P.blocks (tabulate w.numblks addr) o.distinct
        (λ k i. o.in_blocks k (sym (o.order_is k) ∙ i)))

    -- A small step that stores nothing, to H22.
    ends :
        (w : Working) → w.copy ≡ (job p).copy → Roomy w → w.numblks ≤ P.blocks
        → (w.ver ≡ v → v.flag ≡ true → is_undecided (stat h) ≡ true
        → Live P (P.ops (sh.trans h)) g.mem sh.bank blk (copy_of (job p)) (attempt [] addr w) × Olds plan
        s.sh g job p w) → Good (quiet (goto Place.H22 w))
    ends w cp r few L =
        still (goto Place.H22 w) cp (λ q. absurd (np q))
        (record {
          roomy = record { dirty = r.dirty; curr = r.curr; copy = r.copy };
          own = few;
          fresh = λ z f u. rw cp (L z f u);
        })

    -- The clauses of the run that the job is in, at a stage.
    module _ (st : Stage) (I : MoveInside plan st (job p))
        (o : Own P (copy_of (job p)) (attempt (ahead plan st (job p)) addr (job p)))
        (L : (job p).ver ≡ v → v.flag ≡ true → is_undecided (stat h) ≡ true
        → LiveAt plan s.sh g job (ahead plan st (job p)) p (job p) × Olds plan s.sh g job p (job p)) where
      -- The block of the word that is read or written.
      abbrev k : ℕ
      k = block plan (job p)

      -- The run.
      abbrev r : Attempt
      r = attempt (ahead plan st (job p)) addr (job p)

      -- Behind a small step that changes nothing but what is left to do, to the next stage.
      steps_on :
          (next : Stage) → StageOf next (access plan (job p)) → (op : Op)
          → ahead plan st (job p) ≡ op ∷ ahead plan next (job p)
          → Own P (copy_of (job p)) (passed (ahead plan next (job p)) r)
          → ((m : ℕ → ℕ → ℕ) (t : ℕ) → exec (op ∷ ahead plan next (job p)) m t ≡ exec (ahead plan next (job p)) m t)
          → Good (quiet (goto (Place.Move next) (job p)))
      steps_on next so op e w x =
          goes_on next (job p) (ahead plan next (job p)) refl (E.each p).roomy
          (inside-same plan (job p) (goto (Place.Move next) (job p)) refl refl refl st next I so)
          (ahead-same plan (job p) (goto (Place.Move next) (job p)) refl refl refl next) w
          (λ z f u. let l = L z f u in (
            live-passed P (stock-now plan s D g E p u) p l.0 w
                (ap (λ os. exec os (seen P (current sh.bank r) blk) (job p).word) e ∙ x _ _),
            l.1,
          ))

      -- Behind the read or the write: what is left is all behind it.
      goes-behind :
          (x : Working) → x.tr ≡ (job p).tr → x.index ≡ (job p).index → x.access ≡ (job p).access
          → x.copy ≡ (job p).copy → Roomy x → Own P (copy_of (job p)) (attempt (rest plan (job p)) addr x)
          → (x.ver ≡ v → v.flag ≡ true → is_undecided (stat h) ≡ true
          → Live P (P.ops (sh.trans h)) g.mem sh.bank blk (copy_of (job p))
          (attempt (rest plan (job p)) addr x) × Olds plan s.sh g job p x) → Good (quiet (onward plan x))
      goes-behind x et ei ea cp rx ox lx =
          onward-rest (λ y. Good (quiet y)) plan x (rw (et, ei) I.in_moves) (rw (et, ei, ea) I.in_move)
          (λ m a ins e. goes_on Stage.Check (with_access m a x) (rest plan (job p)) cp
          (roomy-same x (with_access m a x) refl refl refl rx) ins (e ∙ rest-same plan (job p) x et ei ea) ox lx)
          (λ m a e. ends (with_access m a x) cp (roomy-same x (with_access m a x) refl refl refl rx)
          (few-listed (rest plan (job p)) x ox)
          (λ z f u. let n : rest plan (job p) ≡ [] = sym (rest-same plan (job p) x et ei ea) ∙ e in
          let l = lx z f u in (
            subst (λ os. Live P (P.ops (sh.trans h)) g.mem sh.bank blk (copy_of (job p)) (attempt os addr x)) n
                l.0,
            l.1,
          )))

      -- Listing a block that is not yet listed.
      module _ (e : ahead plan st (job p) ≡ Op.list k ∷ ahead plan (after_list (access plan (job p))) (job p))
          (unmarked : eqb (get_or (job p).dirty k 0) 0 ≡ true) where
        -- Its bank number.
        abbrev b : ℕ
        b = sh.bank k

        -- The record with the block listed.
        abbrev j : Working
        j = goto (Place.Move (after_list (access plan (job p)))) (listing k b (job p))

        -- The addresses of the rows.
        abbrev al : ℕ → ℕ → ℕ
        al = upd sh.addrlist p (upd addr (job p).numblks k)

        -- Their old numbers.
        abbrev ol : ℕ → ℕ → ℕ
        ol = upd sh.oldlist p (upd (sh.oldlist p) (job p).numblks b)

        -- It is one of the blocks.
        in_blocks : k < P.blocks
        in_blocks = (subst (λ os. Shape P os r.listed r.wrote) e o.shape).0

        -- The array has room for it.
        in_array : k < 16
        in_array = let l = in_blocks in let m = ok.blocks in omega arith

        -- It is not listed.
        not_listed : r.listed k ≡ false
        not_listed = ap not unmarked

        -- The run that is read off the new record and row.
        listed-run :
            attempt (ahead plan (after_list (access plan (job p))) j) (al p) j ≡ lists
            (ahead plan (after_list (access plan (job p))) (job p)) k b r
        listed-run =
            ap (λ a. attempt (ahead plan (after_list (access plan (job p))) j) a j)
            (upd_same sh.addrlist p (upd addr (job p).numblks k))
            ∙ ap (λ os. attempt os (upd addr (job p).numblks k) j)
            (ahead-same plan (job p) j refl refl refl (after_list (access plan (job p))))
            ∙ attempt-lists (ahead plan (after_list (access plan (job p))) (job p)) (ahead plan st (job p)) addr
            (job p) k b (E.each p).roomy in_array (eqb-true _ _ unmarked)

        -- The old numbers of the row are the bank's.
        listed-olds :
            Olds plan s.sh g job p (job p)
            → Olds plan (with_rows sh.numblks al ol sh.newlist s.sh) g (upd job p j) p j
        listed-olds O i l =
            ap (λ f. f i) (upd_same sh.oldlist p (upd (sh.oldlist p) (job p).numblks b))
            ∙ go (ℕ_discrete i (job p).numblks)
            ∙ ap (λ f. sh.bank (f i)) (sym (upd_same sh.addrlist p (upd addr (job p).numblks k)))
          where
            go :
                Dec (i ≡ (job p).numblks)
                → upd (sh.oldlist p) (job p).numblks b i ≡ sh.bank (upd addr (job p).numblks k i)
            go (yes z) =
                upd-at (sh.oldlist p) (job p).numblks b i z
                ∙ ap sh.bank (sym (upd-at addr (job p).numblks k i z))
            go (no m) =
                upd_other (sh.oldlist p) (job p).numblks b i m ∙ O i (omega arith)
                ∙ ap sh.bank (sym (upd_other addr (job p).numblks k i m))

        -- The block is listed.
        keeps-listing : Good (storing (Store.Listed (job p).numblks k b) j)
        keeps-listing =
            record {
              kept =
                  keeps-row plan s D g E p np sh.numblks al ol sh.newlist
                  (λ x n. record {
                    numblks = refl;
                    addrlist = upd_other sh.addrlist p _ x n;
                    oldlist = upd_other sh.oldlist p _ x n;
                    newlist = refl;
                  }) j refl (record {
                    roomy =
                        roomy-same (listing k b (job p)) j refl refl refl
                        (roomy-listing k b (job p) (E.each p).roomy);
                    own = (
                      inside-same plan (job p) j refl refl refl st (after_list (access plan (job p))) I
                          (after_list_lem (access plan (job p))),
                      subst (Own P (copy_of (job p))) (sym listed-run)
                          (own-list P o b e not_listed (bank-numbers plan s C D g E k in_blocks)),
                    );
                    fresh =
                        λ z f u. let l = L z f u in (
                          subst (Live P (P.ops (sh.trans h)) g.mem sh.bank blk (copy_of (job p)))
                              (sym listed-run) (live-list P (stock-now plan s D g E p u) p l.0 e not_listed),
                          listed-olds
                              l.1,
                        );
                  });
              fits =
                  let l : length r.order < P.blocks = fewer-listed P o k in_blocks not_listed in
                  let q : length r.order ≡ (job p).numblks = length-tabulate (job p).numblks addr in
                  let m = ok.blocks in
                  omega arith;
            }

      -- Copying a block on its first write.
      module _ (e : ahead plan st (job p) ≡ Op.copy k ∷ ahead plan Stage.Write (job p))
          (so : StageOf Stage.Write (access plan (job p))) (first-write : eqb (get_or (job p).dirty k 0) 2 ≡ false)
        where
          abbrev c : ℕ
          c = copy_of (job p) (job p).dirtycnt

          abbrev jc : Working
          jc = goto (Place.Move Stage.Write) (copying k c (job p))

          -- What can be done says that it is a listed block.
          copy-shape : Shape P (Op.copy k ∷ ahead plan Stage.Write (job p)) r.listed r.wrote
          copy-shape = subst (λ os. Shape P os r.listed r.wrote) e o.shape

          has_room : (job p).dirtycnt < P.copies
          has_room = copy-lt P o e first-write

          -- The run that is read off the new record.
          copied-run : attempt (ahead plan Stage.Write jc) addr jc ≡ copies (ahead plan Stage.Write (job p)) k c r
          copied-run =
              ap (λ os. attempt os addr jc) (ahead-same plan (job p) jc refl refl refl Stage.Write)
              ∙ attempt-copies (ahead plan Stage.Write (job p)) (ahead plan st (job p)) addr (job p) k c
              (E.each p).roomy (let l = copy-shape.0 in let m = ok.blocks in omega arith)
              (not-true _ copy-shape.1)

          keeps-copying : Good (storing (Store.Block (get_or (job p).curr k 0) c) jc)
          keeps-copying =
              record {
                kept =
                    keeps-block plan s D g E p np (job p).dirtycnt has_room (blk (get_or (job p).curr k 0)) jc refl
                    (record {
                      roomy =
                          roomy-same (copying k c (job p)) jc refl refl refl
                          (roomy-copying k c (job p) (E.each p).roomy);
                      own = (
                        inside-same plan (job p) jc refl refl refl st Stage.Write I so,
                        subst
                            (Own P (copy_of (job p))) (sym copied-run)
                            (own-copy P o e first-write (copy-numbers plan s C D g E p p<N (job p).dirtycnt has_room)),
                      );
                      fresh =
                          λ z f u. let l = L z f u in (
                            subst (Live P (P.ops (sh.trans h)) g.mem sh.bank
                                (upd blk c (blk (get_or (job p).curr k 0))) (copy_of (job p))) (sym copied-run)
                                (live-copy P (stock-now plan s D g E p u) p l.0 e first-write
                                (copy-numbers plan s C D g E p p<N (job p).dirtycnt has_room)),
                            l.1,
                          );
                    });
                fits = (o.in-stock k copy-shape.1, copy-numbers plan s C D g E p p<N (job p).dirtycnt has_room);
              }

      -- Taking a word.
      keeps-taking :
          ahead plan st (job p) ≡ Op.take k (offset plan (job p)) ∷ rest plan (job p)
          → Good (quiet (onward plan (with_word (sh.blk (get_or (job p).curr k 0) (offset plan (job p))) (job p))))
      keeps-taking e =
          goes-behind (with_word (sh.blk (get_or (job p).curr k 0) (offset plan (job p))) (job p)) refl refl refl refl
          (roomy-as (with_word (sh.blk (get_or (job p).curr k 0) (offset plan (job p))) (job p)) refl refl refl)
          (own-take P o (offset plan (job p)) (sh.blk (get_or (job p).curr k 0) (offset plan (job p))) e)
          (λ z f u. let l = L z f u in (
            subst
                (λ x. Live P (P.ops (sh.trans h)) g.mem sh.bank blk (copy_of (job p))
                (took (rest plan (job p)) x r))
                word-is (live-take P (stock-now plan s D g E p u) p l.0 (offset plan (job p)) e),
            l.1,
          ))
        where
          take-shape : Shape P (Op.take k (offset plan (job p)) ∷ rest plan (job p)) r.listed r.wrote
          take-shape = subst (λ os. Shape P os r.listed r.wrote) e o.shape

          word-is :
              blk (current sh.bank r k) (offset plan (job p)) ≡ sh.blk (get_or (job p).curr k 0)
              (offset plan (job p))
          word-is = rw (take-shape.1, lt-ltb (offset plan (job p)) plan.sizes.words (mod-lt _ ok.some_word))

      -- Writing a word: the record behind it, and the store.
      module _
          (e : ahead plan st (job p) ≡ Op.put_word k (offset plan (job p)) (move plan (job p)) ∷ rest plan (job p))
        where
          abbrev x : ℕ
          x = word_written (move plan (job p)) (job p).word

          -- The block written is one of the job's copies.
          mine : (i : ℕ) × (i < P.copies) × (get_or (job p).curr k 0 ≡ copy_of (job p) i)
          mine = written-own P o (offset plan (job p)) (move plan (job p)) e

          -- The store as it is seen by the copy's place.
          abbrev blk' : ℕ → ℕ → ℕ → ℕ
          blk' c = upd blk c (upd (blk c) (offset plan (job p)) x)

          -- What can be done says that it is a listed block.
          write_shape :
              Shape P (Op.put_word k (offset plan (job p)) (move plan (job p)) ∷ rest plan (job p)) r.listed
              r.wrote
          write_shape = subst (λ os. Shape P os r.listed r.wrote) e o.shape

          -- The run behind it.
          written-live :
              (job p).ver ≡ v → v.flag ≡ true → is_undecided (stat h) ≡ true
              → Live P (P.ops (sh.trans h)) g.mem sh.bank (blk' (copy_of (job p) mine.0)) (copy_of (job p))
              (attempt (rest plan (job p)) addr (job p)) × Olds plan s.sh g job p (job p)
          unfolding put
          written-live z f u =
              let l = L z f u in (
                subst (λ c. Live P (P.ops (sh.trans h)) g.mem sh.bank (blk' c) (copy_of (job p))
                    (attempt (rest plan (job p)) addr (job p))) mine.2
                    (live-write P (stock-now plan s D g E p u) p l.0 (offset plan (job p)) (move plan (job p)) e),
                l.1,
              )

          -- To the record y behind it: the clauses of the running job are asked.
          writes_to :
              (y : Working) → y.copy ≡ (job p).copy
              → JobContents plan (with_blocks (blk' (copy_of (job p) mine.0)) s.sh) g (upd job p y) p y
              → Good (storing (Store.Word (get_or (job p).curr k 0) (offset plan (job p)) x) y)
          writes_to y cp own =
              record {
                kept =
                    subst (λ c. ContentsHold plan (record { sh = with_blocks (blk' c) s.sh; job = upd job p y }) g)
                    (sym mine.2) (keeps-block plan s D g E p np mine.0 mine.1
                    (upd (blk (copy_of (job p) mine.0)) (offset plan (job p)) x) y cp own);
                fits = (o.in-stock k write_shape.1, mod-lt _ ok.some_word);
              }

          keeps-writing :
              Good (storing (Store.Word (get_or (job p).curr k 0) (offset plan (job p)) x) (onward plan (job p)))
          keeps-writing =
              onward-rest (λ y. Good (storing (Store.Word (get_or (job p).curr k 0) (offset plan (job p)) x) y)) plan
              (job p) I.in_moves I.in_move (λ m a ins q. writes_to
              (goto (Place.Move Stage.Check) (with_access m a (job p))) refl
              (record {
                roomy = roomy-as (goto (Place.Move Stage.Check) (with_access m a (job p))) refl refl refl;
                own = (ins, rw q (own-write P o (offset plan (job p)) (move plan (job p)) e));
                fresh = λ z f u. rw q (written-live z f u);
              })) (λ m a q. writes_to (goto Place.H22 (with_access m a (job p))) refl
              (record {
                roomy = roomy-as (goto Place.H22 (with_access m a (job p))) refl refl refl;
                own = few-listed (ahead plan st (job p)) (job p) o;
                fresh =
                    λ z f u. let l = written-live z f u in (
                      subst (λ os. Live P (P.ops (sh.trans h)) g.mem sh.bank (blk' (copy_of (job p) mine.0))
                          (copy_of (job p)) (attempt os addr (job p))) q l.0,
                      l.1,
                    );
              }))

    -- The stages of a move.
    stages :
        (st : Stage) → MoveInside plan st (job p)
        → Own P (copy_of (job p)) (attempt (ahead plan st (job p)) addr (job p))
        → ((job p).ver ≡ v → v.flag ≡ true → is_undecided (stat h) ≡ true
        → LiveAt plan s.sh g job (ahead plan st (job p)) p (job p) × Olds plan s.sh g job p (job p))
        → Good (stage plan sh p st (job p))
    unfolding stage exec
    stages Stage.Check I o L =
        rw shut-test (test Good _ _ _ (λ _. let e = ahead-check plan (job p) in
        steps_on Stage.Check I o L Stage.List tt check e (own-check P o e) (λ _ _. refl))
        (λ _. clears _ refl (search) (search) refl (λ q. absurd (np q))))
    stages Stage.List I o L =
        let e = ahead-list plan (job p) in
        rw shut-test (test Good _ _ _ (λ t. keeps-listing Stage.List I o L e t) (λ t. steps_on Stage.List I o L
        (after_list (access plan (job p))) (after_list_lem (access plan (job p))) (list (block plan (job p))) e
        (own-listed P o e (ap not t)) (λ _ _. refl)))
    stages Stage.Copy I o L =
        let e = ahead-copy plan (job p) I.stage_of in
        let so = after-copy (access plan (job p)) I.stage_of in
        rw shut-test (test Good _ _ _ (λ t. steps_on Stage.Copy I o L Stage.Write so (copy (block plan (job p))) e
        (own-copied P o e t) (λ _ _. refl)) (λ t. keeps-copying Stage.Copy I o L e so t))
    stages Stage.Take I o L = keeps-taking Stage.Take I o L (ahead-take plan (job p) I.stage_of)
    stages Stage.Write I o L = keeps-writing Stage.Write I o L (ahead-write plan (job p) I.stage_of)

    -- H21: a run begins.
    keeps-H21 :
        Clear (job p) → ((job p).ver ≡ v → v.flag ≡ true → (job p).hid ≡ h)
        → Good (quiet
        (goto (begin (get_or plan.updates (sh.trans (job p).hid) [])) (taking (sh.trans (job p).hid) (job p))))
    keeps-H21 c fk =
        begin-ahead (λ a. Good (quiet (goto a (taking u (job p))))) plan u (job p)
        (λ ins e. goes_on Stage.Check (taking u (job p)) (P.ops u) refl (roomy-as (taking u (job p)) refl refl refl)
        ins e
        (own-begun P begun (copy_of (job p))) (λ z f n. (live z f n, λ i l. absurd (omega arith))))
        (λ e. ends (taking u (job p)) refl (roomy-as (taking u (job p)) refl refl refl) (omega arith)
        (λ z f n. (
          subst (λ os. Live P (P.ops (sh.trans h)) g.mem sh.bank blk (copy_of (job p))
              (attempt os addr (taking u (job p)))) e (live z f n),
          λ i l. absurd (omega arith),
        )))
      where
        u : ℕ
        u = sh.trans (job p).hid

        begun : Begun P (P.ops u) (attempt (P.ops u) addr (taking u (job p)))
        begun = attempt-begun P (P.ops u) addr u (job p) c (shape-fits ok u) (room_fits ok u)

        live :
            (job p).ver ≡ v → v.flag ≡ true → is_undecided (stat h) ≡ true
            → Live P (P.ops (sh.trans h)) g.mem sh.bank blk (copy_of (job p))
            (attempt (P.ops u) addr (taking u (job p)))
        live z f n =
            subst (λ t. Live P (P.ops t) g.mem sh.bank blk (copy_of (job p))
            (attempt (P.ops u) addr (taking u (job p)))) (ap sh.trans (fk z f))
            (live-begun P begun g.mem sh.bank blk (copy_of (job p))
            (E.whole.calm (none-decided plan s D g E p n)).0
            (word-free plan u (seen P sh.bank blk) (job p).word 0))

    -- H22, to the record w: the row is published.
    keeps-H22 :
        (w : Working) → part w.place ≡ deciding → w.ver ≡ (job p).ver → w.copy ≡ (job p).copy
        → w.dirty ≡ (job p).dirty → w.curr ≡ (job p).curr → w.numblks ≡ (job p).numblks
        → attempt [] addr w ≡ attempt [] addr (job p) → (job p).numblks ≤ P.blocks
        → ((job p).ver ≡ v → v.flag ≡ true → is_undecided (stat h) ≡ true
        → LiveAt plan s.sh g job [] p (job p) × Olds plan s.sh g job p (job p))
        → Good (storing Store.Published w)
    keeps-H22 w e ev cp d c n alike few L =
        record {
          kept =
              keeps-row plan s D g E p np (upd sh.numblks p w.numblks) sh.addrlist sh.oldlist
              (upd sh.newlist p new)
              (λ x m. record {
                numblks = upd_other sh.numblks p _ x m;
                addrlist = refl;
                oldlist = refl;
                newlist = upd_other sh.newlist p _ x m;
              })
              w cp
              (record { roomy = roomy-as w d c cp; own = rw e tt; fresh = λ z f. rw e (ready (sym ev ∙ z) f) });
          fits = let m = ok.blocks in omega arith;
        }
      where
        -- the new numbers of the row
        new : ℕ → ℕ
        new = published (sh.addrlist p) (sh.newlist p) w

        -- the scene with the row published
        sh₂ : Scene
        sh₂ =
            with_rows (upd sh.numblks p w.numblks) sh.addrlist sh.oldlist (upd sh.newlist p new) s.sh

        -- for a fresh job: its run is at its end, and its row is published
        ready :
            (job p).ver ≡ v → v.flag ≡ true → is_undecided (stat h) ≡ true
            → LiveAt plan sh₂ g (upd job p w) [] p w
            × Olds plan sh₂ g (upd job p w) p w
            × Published plan sh₂ g (upd job p w) p w
        ready z f u =
            let l = L z f u in (
              subst (λ l. Live P (P.ops (sh.trans h)) g.mem sh.bank blk (λ i. get_or l i 0) (attempt [] addr w))
                  (sym cp)
                  (subst (Live P (P.ops (sh.trans h)) g.mem sh.bank blk (copy_of (job p))) (sym alike)
                  l.0),
              λ i hi. l.1 i (rw n at hi),
              record {
                count = upd_same sh.numblks p w.numblks;
                news = λ i hi. ap (λ f. f i) (upd_same sh.newlist p new) ∙ rw (lt-ltb i w.numblks hi);
              },
            )

    -- H25 done, to the record w: the update of job hid is decided by p.
    keeps-H25 :
        (w : Working) (x : ℤ) (ev : (job p).ver ≡ v) (und : is_undecided (stat (job p).hid) ≡ true)
        (eq : (job p).hid ≡ h)
        → (is_undecided (stat h) ≡ true
        → LiveAt plan s.sh g job [] p (job p)
        × Olds plan s.sh g job p (job p)
        × Published plan s.sh g job p (job p))
        → part w.place ≡ elsewhere → (Past v w) → w.dirty ≡ (cleared (job p)).dirty → w.curr ≡ (job p).curr
        → (LiveAt plan s.sh g job [] p (job p)
        → Olds plan s.sh g job p (job p)
        → (copy_of w ≡ reclaim sh.bank (attempt [] addr (job p)) (copy_of (job p))) × (length w.copy ≡ 8))
        → status_in plan.sizes.jobs x ≡ decided p → Proper x
        → Good (record { work = w; store = Store.Stat (job p).hid x; done = true })
    keeps-H25 w x ev und eq L pl pw dw cw rc y proper =
        means (job p).hid x (decided p) w true y
        (let l : h < P.jobs = chief-small in let m = ok.jobs in rw eq (omega arith), proper)
        (keeps-decide plan s D g E p (job p).hid eq u p<N l.0 l.1 l.2 w (rc l.0 l.1).0 pw
        (plain-contents (with_cells sh.ann (upd stat (job p).hid (decided p)) sh.trans s.sh)
        (record { mem = g.mem; done = λ _. false })
        (upd job p w)
        w
        (record {
          dirty = ap length dw;
          curr = ap length cw ∙ (E.each p).roomy.curr;
          copy = (rc l.0 l.1).1;
        })
        (subst (λ l. (b : ℕ) → get_or l b 0 ≡ 0) (sym dw) (clear-cleared (job p)))
        pl))
      where
        u : is_undecided (stat h) ≡ true
        u = rw eq at und

        l :
            LiveAt plan s.sh g job [] p (job p)
            × Olds plan s.sh g job p (job p)
            × Published plan s.sh g job p (job p)
        l = L u

        chief-small : h < P.jobs
        chief-small = go (ℕ_discrete h P.jobs)
          where
            go : Dec (h ≡ P.jobs) → h < P.jobs
            go (no n) =
                C.whole.in-plan h
                (C.whole.announced-active h (C.whole.named-announced (v.count % P.cards) n).1)
            go (yes z) = absurd (und-not-fin (stat h) u (ap (λ k. is_finished (stat k)) z ∙ C.whole.none))
              where
                und-not-fin : (x : Status) → is_undecided x ≡ true → is_finished x ≡ true → ⊥
                und-not-fin undecided a b = false≢true b
                und-not-fin (decided w) a b = false≢true b
                und-not-fin finished a b = false≢true a

  -- A row is read under V and the running job's record changes: what it has passed stays.
  put-still :
      (w : Working) → (Past v (job p) → Past v w) → (x n : ℕ) → PutOk plan s.sh g job x n
      → PutOk plan s.sh g (upd job p w) x n
  put-still w pp x n K =
      record {
        now = K.now;
        past = past-keeps plan s D g E p w pp x K.past;
        in_blocks = K.in_blocks;
        passed = K.passed;
        over = K.over;
      }

  -- H32: the decider's row is found.
  keeps-H32 :
      (w : Working) → part w.place ≡ first → w.copy ≡ (job p).copy → Roomy w → Clear w
      → (Past v (job p) → Past v w) → (w.ver ≡ v → v.flag ≡ true → stat h ≡ decided (winner_of w)) → Good (quiet w)
  keeps-H32 w e cp r c pp d = still w cp pp (record { roomy = r; own = rw e c; fresh = λ z f. rw e (found (d z f)) })
    where
      found : stat h ≡ decided (winner_of w) → PutOk plan s.sh g (upd job p w) (winner_of w) 0
      found q =
          record {
            now = inl q;
            past = past-keeps plan s D g E p w pp (winner_of w) Z.past;
            in_blocks =
                λ i l. let m : i < length Z.ks = rw Z.row.count at l in
                rw (Z.row.addr i m) (Z.settling.in_blocks _ (listed_at Z.ks i m));
            passed = λ _ i l. absurd (omega arith);
            over = λ y. absurd (decided≢finished q y);
          }
        where
          Z : Settled plan s.sh g job h (winner_of w)
          Z = E.whole.settled h (winner_of w) q

  -- A row that is being read is still read where the running job's wid, j and numblks stay.
  reads_on :
      (w : Working) → w.wid ≡ (job p).wid → w.j ≡ (job p).j → w.numblks ≡ (job p).numblks
      → (Past v (job p) → Past v w) → Reading plan s.sh g job (job p) → Reading plan s.sh g (upd job p w) w
  reads_on w ew ej en pp K =
      record {
        ok =
            subst (λ x. PutOk plan s.sh g (upd job p w) (job_named x) w.j) (sym ew)
            (subst (PutOk plan s.sh g (upd job p w) (winner_of (job p))) (sym ej) (put-still w pp _ _ K.ok));
        inside = rw (ew, ej) K.inside;
        count = rw (ew, en) K.count;
      }

  -- H36 and H37: on to the next place at the same line of the row.
  on_row :
      (a : Place) → part a ≡ looping → is_active a ≡ true → PastKind (kind a) → Clear (job p)
      → ((job p).ver ≡ v → v.flag ≡ true → Reading plan s.sh g job (job p)) → Good (quiet (goto a (job p)))
  on_row a e up k c K =
      still (goto a (job p)) refl (past-on (goto a (job p)) refl up k)
      (record {
        roomy = roomy-as (goto a (job p)) refl refl refl;
        own = rw e c;
        fresh =
            λ z f. rw e (reads_on (goto a (job p)) refl refl refl (past-on (goto a (job p)) refl up k) (K z f));
      })

  -- After H41: at the next line of the row, or at H42 behind the last.
  next-line :
      (sh' : Scene) (g' : Ghost) (J' : ℕ → Working) (b : Bool) → ltb ((job p).j + 1) (job p).numblks ≡ b
      → (job p).j < sh'.numblks (winner_of (job p)) → (job p).numblks ≡ sh'.numblks (winner_of (job p))
      → PutOk plan sh' g' J' (winner_of (job p)) ((job p).j + 1)
      → FreshContents plan sh' g' J' p (next_block (job p)) (elim b [ true ↦ looping | false ↦ last ])
  next-line sh' g' J' true t l n K =
      record { ok = K; inside = rw n at (ltb-true ((job p).j + 1) (job p).numblks t); count = n }
  next-line sh' g' J' false t l n K =
      let m : (job p).numblks ≤ (job p).j + 1 = ltb-false ((job p).j + 1) (job p).numblks t in
      let q : (job p).j + 1 ≡ sh'.numblks (winner_of (job p)) = omega arith in
      subst (PutOk plan sh' g' J' (winner_of (job p))) q K

  -- The record after H41.
  abbrev j₄ : Working
  j₄ = goto (cond (ltb ((job p).j + 1) (job p).numblks) Place.H36 Place.H42) (next_block (job p))

  -- A decider stays past its deciding.
  past₄ : Past v (job p) → Past v j₄
  past₄ =
      store-elim (λ x. Past v (job p) → Past v x) (job p) (past-on _ refl refl tt) (past-on _ refl refl tt)

  -- Its clauses, from those at the next line.
  loc₄ :
      (sh' : Scene) (g' : Ghost) (J' : ℕ → Working) → Clear (job p)
      → (j₄.ver ≡ sh'.v → sh'.v.flag ≡ true
      → ((job p).j < sh'.numblks (winner_of (job p))) × ((job p).numblks ≡ sh'.numblks (winner_of (job p))) × PutOk plan
      sh' g' J' (winner_of (job p)) ((job p).j + 1)) → JobContents plan sh' g' J' p j₄
  loc₄ sh' g' J' c K =
      rw shut-test (test (λ a. JobContents plan sh' g' J' p (goto a (next_block (job p)))) _ _ _
      (λ t. record {
        roomy = roomy-as _ refl refl refl;
        own = c;
        fresh =
            λ z f. let k = K z f in
            let y = next-line sh' g' J' true t k.0 k.1 k.2 in
            record { ok = y.ok; inside = y.inside; count = y.count };
      }) (λ t. record {
        roomy = roomy-as _ refl refl refl;
        own = c;
        fresh = λ z f. let k = K z f in next-line sh' g' J' false t k.0 k.1 k.2;
      }))

  -- H41 done.
  keeps-H41 :
      Clear (job p) → v.flag ≡ true → Reading plan s.sh g job (job p) → LineRead plan s.sh g job (job p)
      → Good (record { work = j₄; store = Store.Bank (job p).addr (job p).new; done = true })
  keeps-H41 c f K l =
      record {
        kept =
            subst (λ a. ContentsHold plan
            (record { sh = with_bank (upd sh.bank a (job p).new) s.sh; job = upd job p j₄ })
            (record { mem = g.mem; done = upd g.done a true })) (sym l.addr)
            (subst (λ b. ContentsHold plan
            (record { sh = with_bank (upd sh.bank (sh.addrlist w n) b) s.sh; job = upd job p j₄ })
            (record { mem = g.mem; done = upd g.done (sh.addrlist w n) true })) (sym l.new)
            (keeps-bank plan s D g E p w n K.ok K.inside j₄ refl past₄ f
            (loc₄ _ _ _ c
            (λ _ _. (K.inside, K.count, put_next plan s D g E p w n K.ok K.inside j₄ refl past₄)))));
        fits =
            let a : sh.addrlist w n < P.blocks = K.ok.in_blocks n K.inside in
            let e = l.addr in
            let m = ok.blocks in
            omega arith;
      }
    where
      w : ℕ
      w = winner_of (job p)

      n : ℕ
      n = (job p).j

  -- H41 not done.
  skips-H41 :
      Clear (job p)
      → ((job p).ver ≡ v → v.flag ≡ true → Reading plan s.sh g job (job p) × LineRead plan s.sh g job (job p))
      → ((job p).ver ≡ v → eqb (sh.bank (job p).addr) (job p).old ≡ false) → Good (quiet j₄)
  skips-H41 c sk t =
      still j₄ refl past₄ (loc₄ s.sh g (upd job p j₄) c (λ z f. let k = sk z f in (
        k.0.inside,
        k.0.count,
        put-still j₄ past₄ _ _ (skip plan s D g E p (winner_of (job p)) (job p).j k.0.ok
            k.0.inside (λ q. eqb-false _ _ (t z) (ap sh.bank k.1.addr ∙ q ∙ sym k.1.old))),
      )))

  -- The copy list after H25 is done.
  reclaims-copies :
      LiveAt plan s.sh g job [] p (job p) → Olds plan s.sh g job p (job p)
      → (copy_of (after_deciding plan sh p (job p))
      ≡ reclaim sh.bank (attempt [] (sh.addrlist p) (job p)) (copy_of (job p)))
      × (length (after_deciding plan sh p (job p)).copy ≡ 8)
  unfolding reclaim
  reclaims-copies L O = (
    fun_ext (λ i. copy-reclaimed (sh.addrlist p) (sh.oldlist p) sh.bank (job p) O i),
    length-first-places (replaced (sh.addrlist p) (sh.oldlist p) (job p).dirty (job p).numblks) (job p).copy
        (omega (
          arith,
          length-replaced (sh.addrlist p) (sh.oldlist p) sh.bank (job p) O,
          L.count,
          L.own.room,
          (E.each p).roomy.copy,
          ok.copies,
        ))
        ∙ (E.each p).roomy.copy,
  )

  -- The number p means decided by p.
  decided-by-p : status_in plan.sizes.jobs (pos p) ≡ decided p
  decided-by-p = decided-means plan.sizes.jobs p (λ z. let l = p<N in omega arith)

  -- Every item, by the place: with the clauses of p of all three layers at that place.
  items :
      (pl : Place) → (job p).place ≡ pl → OnBoard P (board s) p (job p).lid (phase_at (second (job p)) pl)
      → HelpHolds P (job p) (kind pl) → ChiefGuard P v sh.ann stat p (job p).lid (phase_at (second (job p)) pl)
      → ((job p).ver ≡ v → v.flag ≡ true → FreshHolds P v sh.ann stat (job p) (kind pl))
      → OwnAt plan (sh.addrlist p) (job p) (part pl)
      → ((job p).ver ≡ v → v.flag ≡ true → FreshContents plan s.sh g job p (job p) (part pl))
      → Good (item plan sh p pl (job p))
  unfolding item
  items Place.Idle e c fl guard fk own sk =
      still (job p) refl (λ q. q) (record { roomy = (E.each p).roomy; own = rw e own; fresh = λ _ _. rw e tt })
  items Place.A1 e c fl guard fk own sk =
      keeps-A1 (rw e) c _ _ refl (λ q. absurd (rw e at q.past))
      (plain-contents _ _ _ _ (roomy-as _ refl refl refl) own refl)
  items Place.A2 e c fl guard fk own sk =
      keeps-A2 (rw e) c _ refl (λ q. absurd (rw e at q.past))
      (plain-contents _ _ _ _ (roomy-as _ refl refl refl) own refl)
  items Place.A4 e c fl guard fk own sk =
      rw shut-test (test Good _ _ _ (λ _. rests _ refl refl refl refl own (λ q. absurd (rw e at q.past)))
      (λ _. rests _ refl refl refl refl own (λ q. absurd (rw e at q.past))))
  items Place.A7 e c fl guard fk own sk =
      rw shut-test (test Good _ _ _ (λ _. rests _ refl refl refl refl own (λ q. absurd (rw e at q.past)))
      (λ _. either Good sh.v.flag _ _ (rests _ refl refl refl refl own (λ q. absurd (rw e at q.past)))
      (rests _ refl refl refl refl own (λ q. absurd (rw e at q.past)))))
  items Place.A10 e c fl guard fk own sk = rests _ refl refl refl refl own (past-on _ refl refl tt)
  items Place.A12 e c fl guard fk own sk =
      rw shut-test (test Good _ _ _ (λ t. let ev : (job p).ver ≡ v = same_version_lem v (job p).ver (search) in
      record {
        kept =
            keeps-turn plan s D g E p (record { count = (job p).ver.count + 1; flag = (job p).next })
            (goto Place.A7 (job p)) (ap (λ (x : Version). x.count + 1) (sym ev)) refl
            (plain-contents _ _ _ _ (roomy-as _ refl refl refl) own refl) (fk ev);
        fits = tt;
      }) (λ t. rests _ refl refl refl refl own (λ q. absurd (stale v (job p).ver (search) q.fresh))))
  items Place.A14 e c fl guard fk own sk =
      choice Good (eqb (job p).round 0) _ _
      (λ t. keeps-announcement guard p _ refl (λ q. absurd (rw e at q.past))
      (plain-contents _ _ _ _ (roomy-as _ refl refl refl) own refl))
      (λ t. keeps-announcement guard p _ refl (λ q. absurd (rw e at q.past))
      (plain-contents _ _ _ _ (roomy-as _ refl refl refl) own refl))
  items Place.A15 e c fl guard fk own sk =
      keeps-announcement guard _ _ refl (λ q. absurd (rw e at q.past))
      (plain-contents _ _ _ _ (roomy-as _ refl refl refl) own refl)
  items Place.H16 e c fl guard fk own sk = rests _ refl refl refl refl own (λ q. absurd (rw e at q.past))
  items Place.H17 e c fl guard fk own sk =
      rw shut-test (test Good _ _ _ (λ _. rests _ refl refl refl refl own (λ q. absurd (rw e at q.past)))
      (λ _. either Good (same_status (sh.stat (job p).hid) (negsuc 0)) _ _
      (rests _ refl refl refl refl own (λ q. absurd (rw e at q.past)))
      (rests _ refl refl refl refl own (λ q. absurd (rw e at q.past)))))
  items Place.H21 e c fl guard fk own sk = keeps-H21 (λ q. rw e at q.past) own fk
  items (Place.Move st) e c fl guard fk own sk = stages (λ q. rw e at q.past) st own.0 own.1 sk
  items Place.H22 e c fl guard fk own sk =
      keeps-H22 (λ q. rw e at q.past) _ refl refl (search) refl refl refl refl own sk
  items Place.H25 e c fl guard fk own sk =
      rw shut-test
      (test Good _ _ _ (λ t. let ev : (job p).ver ≡ v = same_version_lem v (job p).ver (search (and_l, and_r)) in
      let f : v.flag ≡ true = sym (ap (λ (x : Version). x.flag) ev) ∙ fl in
      let u : same_status (sh.stat (job p).hid) (negsuc 0) ≡ true = search (and_l, and_r) in
      keeps-H25 (λ q. rw e at q.past) _ _ ev (undecided-is _ _ ∙ u) (fk ev f) (sk ev f) refl
      (record { up = refl; fresh = ev; past = tt })
      (search) refl reclaims-copies decided-by-p tt)
      (λ _. clears _ refl (search) (search) refl (λ q. absurd (rw e at q.past))))
  items Place.H32 e c fl guard fk own sk =
      rw shut-test (test Good _ _ _ (λ _. rests _ refl refl refl refl own (past-on _ refl refl tt))
      (λ t. keeps-H32 _ refl refl (roomy-as _ refl refl refl) own (past-on _ refl refl tt)
      (λ z f. ap stat (sym (fk z f).0) ∙ decided-else plan.sizes.jobs (sh.stat (job p).hid)
      (search (or_l, or_r)) (search (or_l, or_r)))))
  items Place.H34 e c fl guard fk own sk =
      choice Good (eqb (sh.numblks (winner plan sh p (job p))) 0) _ _ (λ t. still _ refl (past-on _ refl refl tt)
      (record {
        roomy = roomy-as _ refl refl refl;
        own = own;
        fresh =
            λ z f. subst (PutOk plan s.sh g
            (upd job p (goto Place.H42 (with_row (sh.numblks (winner_of (job p))) (job p)))) (winner_of (job p)))
            (sym (eqb-true _ _ t)) (put-still _ (past-on _ refl refl tt) _ _ (sk z f));
      })) (λ t. still _ refl (past-on _ refl refl tt) (record {
        roomy = roomy-as _ refl refl refl;
        own = own;
        fresh =
            λ z f. record {
              ok = put-still _ (past-on _ refl refl tt) _ _ (sk z f);
              inside = let ne : sh.numblks (winner_of (job p)) ≢ 0 = eqb-false _ _ t in omega arith;
              count = refl;
            };
      }))
  items Place.H36 e c fl guard fk own sk =
      rw shut-test (test Good _ _ _ (λ _. rests _ refl refl refl refl own (past-on _ refl refl tt))
      (λ _. on_row Place.H37 refl refl tt own sk))
  items Place.H37 e c fl guard fk own sk =
      rw shut-test (test Good _ _ _ (λ _. rests _ refl refl refl refl own (past-on _ refl refl tt))
      (λ _. on_row Place.H38 refl refl tt own sk))
  items Place.H38 e c fl guard fk own sk =
      still _ refl (past-on _ refl refl tt) (record {
        roomy = roomy-as _ refl refl refl;
        own = own;
        fresh =
            λ z f. (
              reads_on _ refl refl refl (past-on _ refl refl tt) (sk z f),
              record { addr = refl; old = refl; new = refl },
            );
      })
  items Place.H41 e c fl guard fk own sk =
      rw shut-test
      (test Good _ _ _ (λ t. let ev : (job p).ver ≡ v = same_version_lem v (job p).ver (search (and_l, and_r)) in
      let f : v.flag ≡ true = sym (ap (λ (x : Version). x.flag) ev) ∙ fl.0 in
      keeps-H41 own f (sk ev f).0 (sk ev f).1)
      (λ t. skips-H41 own sk (λ z. search failed)))
  items Place.H42 e c fl guard fk own sk =
      choice Good (may_commit plan sh p (job p)) _ _
      (λ t. let ev : (job p).ver ≡ v = same_version_lem v (job p).ver (search (and_l, and_r)) in
      let f : v.flag ≡ true = sym (ap (λ (x : Version). x.flag) ev) ∙ fl.0 in
      let eq : (job p).hid ≡ h = (fk ev f).0 in
      let w : same_status (sh.stat (job p).hid) (job p).wid ≡ true = search (and_l, and_r) in
      let d : stat h ≡ decided (winner_of (job p)) =
      ap stat (sym eq) ∙ wid-means P.jobs (job p) _ fl.1 (same_true _ _ w) in
      means (job p).hid (pos plan.sizes.jobs) finished _ true (finished-means plan.sizes.jobs) (
        let l : h < P.jobs = C.whole.in-plan h
            (C.whole.announced-active h (C.whole.named-announced (v.count % P.cards) (D.whole.named f)).1) in
            let m = ok.jobs in
            rw eq (omega arith),
        tt,
      ) (keeps-commit plan s D g E p (winner_of (job p)) (sh.numblks (winner_of (job p))) (sk ev f)
      (job p).hid eq d refl _ refl (past-on _ refl refl tt)
      (plain-contents _ _ _ _ (roomy-as _ refl refl refl) own refl)))
      (λ _. rests _ refl refl refl refl own (past-on _ refl refl tt))

  -- The item that p stands before keeps the layer, and stores inside the arrays.
  pub contents-kept : Good (item plan sh p (job p).place (job p))
  contents-kept =
      items (job p).place refl (C.each p) (D.each p).flag (D.each p).guard (D.each p).fresh (E.each p).own
      (E.each p).fresh

-- An accepted call of an idle job.
pub contents-called :
    (plan : Plan) (s : State) (g : Ghost) (D : EpochsHold (layout plan) s) (p u : ℕ) → (s.job p).place ≡ Place.Idle
    → ContentsHold plan s g → ContentsHold plan (record { sh = s.sh; job = upd s.job p (called u (s.job p)) }) g
contents-called plan s g D p u off E =
    keeps-plain plan s D g E p s.sh.ann s.sh.stat s.sh.trans (called u (s.job p)) refl
    (λ q. absurd (rw off at q.past)) (λ _. refl) (λ _. refl) (λ _. refl) (λ q x e. (e, refl)) (λ q x e. e)
    (record {
      roomy = roomy-same (s.job p) _ refl refl refl (E.each p).roomy;
      own = rw off at (E.each p).own;
      fresh = λ _ _. tt;
    })
