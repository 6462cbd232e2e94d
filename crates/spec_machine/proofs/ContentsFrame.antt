-- The changes of a state that the third layer sees, one lemma each: announcements, statuses and Trans that no fresh
-- helper reads; the running job's own row; one of the running job's copy blocks; the bank at a line of the decided row
-- (H41); a deciding (H25); a commit (H42); and V moving on (A12). Each asks the clauses of the running job alone; for
-- every other job there is one frame lemma, which says what that job must see unchanged.
--
-- In plain words. A row and a copy block are changed by their own job alone, and only while it is in a run, so not
-- while it is past its deciding: the decided row and the reclaimed copies stay. The bank is changed at a line of the
-- decided row alone, to the number that this line names; after the commit that number is there already. V moves on only
-- when nothing is decided, and then no job is fresh.
--
-- Assumes the first two layers.
use Prim.Native.Nat.{ℕ, ◌+◌, ◌≤◌, ◌<◌, ◌%◌}
use mathlib.Core.Path.{◌≡◌, refl, sym, ◌∙◌, ap, subst, fun_ext}
use mathlib.Core.Logic.{◌≢◌, ◌⊎◌, inl, inr}
use mathlib.Core.Bool.{Bool, true, false, cond, false≢true}
use mathlib.Core.List.{List, []}
use native.Mathlib.Omega.{arith}
use native.Mathlib.Decide.{ℕ_discrete}
use lib.ListN.{length, get_or}
use Rattle.spec_format.specs.Plan.{Plan, is_in}
use Rattle.spec_machine.specs.declared.Version.{Version}
use Rattle.spec_machine.specs.declared.Working.{Working}
use Rattle.spec_machine.proofs.ChangedAt.{upd, upd_same, upd_other, upd-at, upd-elim, upd-map, upd-id, upd-ap}
use Rattle.spec_machine.proofs.View.{
  Status,
  undecided,
  decided,
  finished,
  is_undecided,
  Scene,
  State,
  with_v,
  with_cells,
  with_rows,
  with_blocks,
  with_bank,
  decided≢finished,
  undecided≢decided,
  decider-same,
}
use Rattle.spec_format.proofs.Tabulated.{length-tabulate, get_d_tabulate}
use Rattle.spec_machine.proofs.SmallSteps.{Op, exec, Attempt, attempt, copy_of, Layout, layout}
use Rattle.spec_machine.proofs.Attempts.{seen, stock, Stock, settled_bank, Live}
use Rattle.spec_machine.proofs.AttemptSteps.{seen-ext, live-other}
use Rattle.spec_machine.proofs.Settling.{
  listed_at,
  listed-place,
  reclaim,
  stock-stored,
  stores,
  skipped,
  commits,
  settling-other,
  bank-known,
  reclaims,
  decides,
}
use Rattle.spec_machine.proofs.Cards.{CardsHold}
use Rattle.spec_machine.proofs.Epochs.{EpochsHold, winner_of}
use Rattle.spec_machine.proofs.Contents.{
  Ghost,
  Part,
  elsewhere,
  moving,
  publish,
  deciding,
  first,
  looping,
  putting,
  last,
  part,
  Past,
  OwnAt,
  head,
  PutOk,
  LiveAt,
  Olds,
  Published,
  LineRead,
  Reading,
  FreshContents,
  JobContents,
  RowIs,
  Settled,
  ContentsHold,
}

-- Job k's row is the same in two scenes.
pub record SameRow (sh sh' : Scene) (k : ℕ) : Type 0 where
  pub numblks : sh'.numblks k ≡ sh.numblks k
  pub addrlist : sh'.addrlist k ≡ sh.addrlist k
  pub oldlist : sh'.oldlist k ≡ sh.oldlist k
  pub newlist : sh'.newlist k ≡ sh.newlist k

-- Where no row is changed.
pub rows_same :
    {sh sh' : Scene} → sh'.numblks ≡ sh.numblks → sh'.addrlist ≡ sh.addrlist → sh'.oldlist ≡ sh.oldlist
    → sh'.newlist ≡ sh.newlist → (k : ℕ) → SameRow sh sh' k
rows_same n a o w k =
    record {
      numblks = ap (λ f. f k) n;
      addrlist = ap (λ f. f k) a;
      oldlist = ap (λ f. f k) o;
      newlist = ap (λ f. f k) w;
    }

-- The frame for a job that does not run: V stays.
module _ (plan : Plan) (sh sh' : Scene) (g g' : Ghost) (J J' : ℕ → Working) (ev : sh'.v ≡ sh.v) where
  -- What job k, whose record is w, must see unchanged.
  pub record SeesContents (k : ℕ) (w : Working) : Type 0 where
    pub live :
        sh.v.flag ≡ true → is_undecided (sh'.stat (head plan sh' g' J')) ≡ true
        → (is_undecided (sh.stat (head plan sh g J)) ≡ true)
        × ((os : List Op) → LiveAt plan sh g J os k w → LiveAt plan sh' g' J' os k w)
        × (Olds plan sh g J k w → Olds plan sh' g' J' k w)
    pub row : SameRow sh sh' k
    pub put : sh.v.flag ≡ true → (x n : ℕ) → PutOk plan sh g J x n → PutOk plan sh' g' J' x n
    pub other_row : sh.v.flag ≡ true → (x : ℕ) → Past sh.v (J x) → SameRow sh sh' x

  -- A published row in the frame.
  published-keeps : (k : ℕ) (w : Working) → SameRow sh sh' k → Published plan sh g J k w → Published plan sh' g' J' k w
  published-keeps k w S h =
      record {
        count = S.numblks ∙ h.count;
        news = λ i l. ap (λ f. f i) S.newlist ∙ h.news i l ∙ ap (λ f. get_or w.curr (f i) 0) (sym S.addrlist);
      }

  -- A row being read in the frame.
  reading-keeps :
      (k : ℕ) (w : Working) → sh.v.flag ≡ true → SeesContents k w → Reading plan sh g J w → Reading plan sh' g' J' w
  reading-keeps k w f K h =
      let e = (K.other_row f (winner_of w) h.ok.past).numblks in
      record { ok = K.put f _ _ h.ok; inside = rw e h.inside; count = h.count ∙ sym e }

  -- A line read in the frame.
  line-keeps : (w : Working) → SameRow sh sh' (winner_of w) → LineRead plan sh g J w → LineRead plan sh' g' J' w
  line-keeps w S h =
      record {
        addr = h.addr ∙ ap (λ f. f w.j) (sym S.addrlist);
        old = h.old ∙ ap (λ f. f w.j) (sym S.oldlist);
        new = h.new ∙ ap (λ f. f w.j) (sym S.newlist);
      }

  -- The clauses of a fresh job in the frame.
  fresh-contents-keep :
      (k : ℕ) (w : Working) (c : Part) → sh.v.flag ≡ true → SeesContents k w → FreshContents plan sh g J k w c
      → FreshContents plan sh' g' J' k w c
  fresh-contents-keep k w elsewhere f K h = tt
  fresh-contents-keep k w (moving st) f K h =
      λ u. let x = K.live f u in
      let y = h x.0 in
      (x.1 _ y.0, x.2 y.1)
  fresh-contents-keep k w publish f K h = λ u. let x = K.live f u in let y = h x.0 in (x.1 _ y.0, x.2 y.1)
  fresh-contents-keep k w deciding f K h =
      λ u. let x = K.live f u in
      let y = h x.0 in
      (x.1 _ y.0, x.2 y.1, published-keeps k w K.row y.2)
  fresh-contents-keep k w first f K h = K.put f _ _ h
  fresh-contents-keep k w looping f K h = reading-keeps k w f K h
  fresh-contents-keep k w putting f K h =
      (reading-keeps k w f K h.0, line-keeps w (K.other_row f (winner_of w) h.0.ok.past) h.1)
  fresh-contents-keep k w last f K h = rw (K.other_row f (winner_of w) h.past).numblks (K.put f _ _ h)

  -- Every clause of one job in the frame.
  pub job-keeps :
      (k : ℕ) (w : Working) → SeesContents k w → JobContents plan sh g J k w → JobContents plan sh' g' J' k w
  job-keeps k w K E =
      record {
        roomy = E.roomy;
        own = subst (λ a. OwnAt plan a w (part w.place)) (sym K.row.addrlist) E.own;
        fresh = λ e f. fresh-contents-keep k w (part w.place) (rw ev at f) K (E.fresh (e ∙ ev) (rw ev at f));
      }

module _ (plan : Plan) (s : State) (D : EpochsHold (layout plan) s) (g : Ghost) (E : ContentsHold plan s g) (p : ℕ)
  where
    open s.sh use {v, ann, stat, trans, bank, numblks, addrlist, oldlist, newlist, blk}
    open s use {job}

    abbrev P : Layout
    P = layout plan

    abbrev h : ℕ
    h = head plan s.sh g job

    -- Who is past its deciding stays so, where the running job does.
    pub past-keeps : (j : Working) → (Past v (job p) → Past v j) → (w : ℕ) → Past v (job w) → Past v (upd job p j w)
    past-keeps j pp w = upd-elim (λ x. Past v (job w) → Past v x) job p j w (λ e q. pp (rw e at q)) (λ _ q. q)

    -- The copy lists, where the running job's is as it was.
    copies-same :
        (j : Working) → j.copy ≡ (job p).copy
        → ◌≡◌ {A = ℕ → ℕ → ℕ} (λ x. copy_of (upd job p j x)) (λ x. copy_of (job x))
    copies-same j e = fun_ext (λ x. upd-map copy_of job p j x (ap (λ l i. get_or l i 0) e))

    -- Stores to Ann, Trans and Stat that nothing here sees.
    module _ (A : ℕ → ℕ) (S : ℕ → Status) (T : ℕ → ℕ) (j : Working) (cp : j.copy ≡ (job p).copy)
        (pp : Past v (job p) → Past v j)
        (hs : v.flag ≡ true → A (v.count % P.cards) ≡ h) (ss : v.flag ≡ true → S h ≡ stat h)
        (ts : v.flag ≡ true → T h ≡ trans h)
        (dd : (q w : ℕ) → S q ≡ decided w → (stat q ≡ decided w) × (T q ≡ trans q))
        (du : (q w : ℕ) → stat q ≡ decided w → S q ≡ decided w) where
      -- The scene after them.
      abbrev sh₁ : Scene
      sh₁ = with_cells A S T s.sh

      -- A row is read as before.
      plain-put : v.flag ≡ true → (w n : ℕ) → PutOk plan s.sh g job w n → PutOk plan sh₁ g (upd job p j) w n
      plain-put f w n K =
          let e : S (A (v.count % P.cards)) ≡ stat h = ap S (hs f) ∙ ss f in
          record {
            now = rw e K.now;
            past = past-keeps j pp w K.past;
            in_blocks = K.in_blocks;
            passed = λ q. K.passed (sym e ∙ q);
            over = λ q. K.over (sym e ∙ q);
          }

      -- A run goes on as before.
      plain-live :
          v.flag ≡ true → is_undecided (S (A (v.count % P.cards))) ≡ true → (k : ℕ) (x : Working)
          → (is_undecided (stat h) ≡ true)
          × ((os : List Op) → LiveAt plan s.sh g job os k x → LiveAt plan sh₁ g (upd job p j) os k x)
          × (Olds plan s.sh g job k x → Olds plan sh₁ g (upd job p j) k x)
      plain-live f u k x =
          let e : S (A (v.count % P.cards)) ≡ stat h = ap S (hs f) ∙ ss f in
          let t : trans h ≡ T (A (v.count % P.cards)) = sym (ap T (hs f) ∙ ts f) in (
            rw e at u,
            λ os L. subst (λ y. Live P (P.ops y) g.mem bank blk (copy_of x) (attempt os (addrlist k) x)) t
                L,
            λ o. o,
          )

      -- The clauses of the running job are asked.
      pub keeps-plain :
          JobContents plan sh₁ g (upd job p j) p j → ContentsHold plan (record { sh = sh₁; job = upd job p j }) g
      keeps-plain own =
          record {
            whole =
                record {
                  calm =
                      λ n. let c = E.whole.calm (λ q w e. n q w (du q w e)) in
                      (c.0, rw (copies-same j cp) c.1);
                  settled = settled;
                };
            each =
                λ k. upd-elim (λ x. JobContents plan sh₁ g (upd job p j) k x) job p j k (λ e. rw e own)
                (λ n. job-keeps plan s.sh sh₁ g g job (upd job p j) refl k (job k)
                (record {
                  live = λ f u. plain-live f u k (job k);
                  row = rows_same refl refl refl refl k;
                  put = plain-put;
                  other_row = λ _ x _. rows_same refl refl refl refl x;
                }) (E.each k));
          }
        where
          settled : (q w : ℕ) → S q ≡ decided w → Settled plan sh₁ g (upd job p j) q w
          settled q w e =
              let Z = E.whole.settled q w (dd q w e).0 in
              record {
                old = Z.old;
                new = Z.new;
                ks = Z.ks;
                row = record { count = Z.row.count; addr = Z.row.addr; olds = Z.row.olds; news = Z.row.news };
                past = past-keeps j pp w Z.past;
                stocked = rw (copies-same j cp) Z.stocked;
                settling = rw (copies-same j cp, (dd q w e).1) Z.settling;
              }

    -- Nothing is decided while the chief's status is −1.
    pub none-decided : is_undecided (stat h) ≡ true → (q w : ℕ) → stat q ≢ decided w
    none-decided u q w e = false≢true (sym (ap is_undecided (ap stat (sym (D.whole.one q w e).1) ∙ e)) ∙ u)

    -- Then the bank and the copy lists are the stock.
    pub stock-now : is_undecided (stat h) ≡ true → Stock P bank (λ x. copy_of (job x))
    stock-now u = (E.whole.calm (none-decided u)).1

    -- The running job is in a run, so it is no decider.
    module _ (np : Past v (job p) → ⊥) where
      -- Who is past its deciding is another.
      not-p : (w : ℕ) → Past v (job w) → w ≢ p
      not-p w q z = np (rw z at q)

      -- The running job's own row changes.
      module _ (nb : ℕ → ℕ) (al ol nl : ℕ → ℕ → ℕ)
          (same : (k : ℕ) → k ≢ p → SameRow s.sh (with_rows nb al ol nl s.sh) k) (j : Working)
          (cp : j.copy ≡ (job p).copy) where
        -- The scene with the new row.
        abbrev sh₂ : Scene
        sh₂ = with_rows nb al ol nl s.sh

        -- A row that is read is another, and as it was.
        row_put : (w n : ℕ) → PutOk plan s.sh g job w n → PutOk plan sh₂ g (upd job p j) w n
        row_put w n K =
            let r = same w (not-p w K.past) in
            record {
              now = K.now;
              past = past-keeps j (λ q. absurd (np q)) w K.past;
              in_blocks = λ i l. rw r.addrlist (K.in_blocks i (rw r.numblks at l));
              passed = λ q i hi l. rw r.addrlist (K.passed q i hi (rw r.numblks at l));
              over = λ q i l. rw (r.addrlist, r.newlist) (K.over q i (rw r.numblks at l));
            }

        -- The row of another job lists what it did.
        row_is :
            (old new : ℕ → ℕ) (ks : List ℕ) (w : ℕ) → w ≢ p → RowIs plan s.sh g job old new ks w
            → RowIs plan sh₂ g (upd job p j) old new ks w
        row_is old new ks w n r =
            let e = same w n in
            record {
              count = e.numblks ∙ r.count;
              addr = λ i l. rw e.addrlist (r.addr i l);
              olds = λ i l. rw e.oldlist (r.olds i l);
              news = λ i l. rw e.newlist (r.news i l);
            }

        -- The run of another job goes on as before.
        row-live :
            (k : ℕ) → k ≢ p → (x : Working)
            → ((os : List Op) → LiveAt plan s.sh g job os k x → LiveAt plan sh₂ g (upd job p j) os k x)
            × (Olds plan s.sh g job k x → Olds plan sh₂ g (upd job p j) k x)
        row-live k n x =
            let e = same k n in (
              λ os L. subst (λ a. Live P (P.ops (trans h)) g.mem bank blk (copy_of x) (attempt os a x))
                  (sym e.addrlist) L,
              λ o i l. rw (e.addrlist, e.oldlist) (o i l),
            )

        -- The clauses of the running job are asked.
        pub keeps-row :
            JobContents plan sh₂ g (upd job p j) p j → ContentsHold plan (record { sh = sh₂; job = upd job p j }) g
        keeps-row own =
            record {
              whole =
                  record {
                    calm = λ n. let c = E.whole.calm n in (c.0, rw (copies-same j cp) c.1);
                    settled = settled;
                  };
              each =
                  λ k. upd-elim (λ x. JobContents plan sh₂ g (upd job p j) k x) job p j k (λ e. rw e own)
                  (λ n. job-keeps plan s.sh sh₂ g g job (upd job p j) refl k (job k)
                  (record {
                    live = λ f u. (u, (row-live k n (job k)).0, (row-live k n (job k)).1);
                    row = same k n;
                    put = λ _. row_put;
                    other_row = λ _ x q. same x (not-p x q);
                  }) (E.each k));
            }
          where
            settled : (q w : ℕ) → stat q ≡ decided w → Settled plan sh₂ g (upd job p j) q w
            settled q w e =
                let Z = E.whole.settled q w e in
                record {
                  old = Z.old;
                  new = Z.new;
                  ks = Z.ks;
                  row = row_is Z.old Z.new Z.ks w (not-p w Z.past) Z.row;
                  past = past-keeps j (λ q. absurd (np q)) w Z.past;
                  stocked = rw (copies-same j cp) Z.stocked;
                  settling = rw (copies-same j cp) Z.settling;
                }

      -- One of the running job's copy blocks changes.
      module _ (i : ℕ) (hi : i < P.copies) (y : ℕ → ℕ) (j : Working) (cp : j.copy ≡ (job p).copy) where
        -- The scene with the copy block changed.
        abbrev sh₃ : Scene
        sh₃ = with_blocks (upd blk (copy_of (job p) i) y) s.sh

        -- The clauses of the running job are asked.
        pub keeps-block :
            JobContents plan sh₃ g (upd job p j) p j → ContentsHold plan (record { sh = sh₃; job = upd job p j }) g
        keeps-block own =
            record {
              whole = record { calm = calm; settled = settled };
              each =
                  λ k. upd-elim (λ x. JobContents plan sh₃ g (upd job p j) k x) job p j k (λ e. rw e own)
                  (λ n. job-keeps plan s.sh sh₃ g g job (upd job p j) refl k (job k)
                  (record {
                    live = λ f u. (u, λ os L. live-other P (stock-now u) k L p n i hi y, λ o. o);
                    row = rows_same refl refl refl refl k;
                    put =
                        λ f w n K. record {
                          now = K.now;
                          past = past-keeps j (λ q. absurd (np q)) w K.past;
                          in_blocks = K.in_blocks;
                          passed = K.passed;
                          over = K.over;
                        };
                    other_row = λ _ x _. rows_same refl refl refl refl x;
                  }) (E.each k));
            }
          where
            calm :
                ((q w : ℕ) → stat q ≢ decided w)
                → (g.mem ≡ seen P bank (upd blk (copy_of (job p) i) y)) × Stock P bank (λ x. copy_of (upd job p j x))
            calm n =
                let c = E.whole.calm n in (
                  c.0
                      ∙ sym (seen-ext P bank bank (upd blk (copy_of (job p) i) y) blk
                      (λ k hk. upd_other blk (copy_of (job p) i) y (bank k) (c.1.bank_copy k p i hk hi))),
                  rw
                      (copies-same j cp) c.1,
                )

            settled : (q w : ℕ) → stat q ≡ decided w → Settled plan sh₃ g (upd job p j) q w
            settled q w e =
                let Z = E.whole.settled q w e in
                record {
                  old = Z.old;
                  new = Z.new;
                  ks = Z.ks;
                  row = record { count = Z.row.count; addr = Z.row.addr; olds = Z.row.olds; news = Z.row.news };
                  past = past-keeps j (λ q. absurd (np q)) w Z.past;
                  stocked = rw (copies-same j cp) Z.stocked;
                  settling =
                      rw (copies-same j cp)
                      (settling-other P Z.settling p i y (λ z. not-p w Z.past (sym z)) hi Z.stocked);
                }

    -- The running job reads w's row under V and has passed n lines of it: H41 and H42.
    module _ (w n : ℕ) (K : PutOk plan s.sh g job w n) where
      -- The chief's status is not −1.
      not-undecided : is_undecided (stat h) ≡ true → ⊥
      not-undecided u = go K.now
        where
          go : (stat h ≡ decided w) ⊎ (stat h ≡ finished) → ⊥
          go (inl d) = false≢true (sym (ap is_undecided d) ∙ u)
          go (inr d) = false≢true (sym (ap is_undecided d) ∙ u)

      -- A line of the row, while the update is decided.
      line_of :
          (d : stat h ≡ decided w) (i : ℕ) → i < numblks w → let Z = E.whole.settled h w d in
          (is_in (addrlist w i) Z.ks ≡ true) × (oldlist w i ≡ Z.old (addrlist w i))
          × (newlist w i ≡ Z.new (addrlist w i))
      line_of d i hi =
          let Z = E.whole.settled h w d in
          let l : i < length Z.ks = rw Z.row.count at hi in
          rw (Z.row.addr i l) (listed_at Z.ks i l, Z.row.olds i l, Z.row.news i l)

      module _ (hn : n < numblks w) where
        -- H41 not done: the block was stored before.
        pub skip : bank (addrlist w n) ≢ oldlist w n → PutOk plan s.sh g job w (n + 1)
        skip ne = record { now = K.now; past = K.past; in_blocks = K.in_blocks; passed = passed; over = K.over }
          where
            passed : stat h ≡ decided w → (i : ℕ) → i < n + 1 → i < numblks w → g.done (addrlist w i) ≡ true
            passed d i hi hl = go (ℕ_discrete i n)
              where
                go : Dec (i ≡ n) → g.done (addrlist w i) ≡ true
                go (yes e) =
                    let l = line_of d n hn in
                    rw e (skipped P (E.whole.settled h w d).settling _ l.0 (λ q. ne (q ∙ sym l.1)))
                go (no m) = K.passed d i (omega arith) hl

        -- H41 done.
        module _ (j : Working) (cp : j.copy ≡ (job p).copy) (pp : Past v (job p) → Past v j) where
          -- The scene with the block stored.
          abbrev sh₄ : Scene
          sh₄ = with_bank (upd bank (addrlist w n) (newlist w n)) s.sh

          -- The block counts as stored.
          abbrev g₄ : Ghost
          g₄ = record { mem = g.mem; done = upd g.done (addrlist w n) true }

          -- After the commit the new number is there already.
          bank-same : stat h ≡ finished → upd bank (addrlist w n) (newlist w n) ≡ bank
          bank-same d = upd-id bank _ _ (K.over d n hn)

          -- What was stored stays stored.
          more : (x : ℕ) → g.done x ≡ true → upd g.done (addrlist w n) true x ≡ true
          more x e = upd-elim (λ c. c ≡ true) g.done _ true x (λ _. refl) (λ _. e)

          -- Every reader of a row goes on as before.
          put₄ : (x m : ℕ) → PutOk plan s.sh g job x m → PutOk plan sh₄ g₄ (upd job p j) x m
          put₄ x m L =
              record {
                now = L.now;
                past = past-keeps j pp x L.past;
                in_blocks = L.in_blocks;
                passed = λ d i hi hl. more _ (L.passed d i hi hl);
                over = λ d i hl. rw (bank-same d) (L.over d i hl);
              }

          -- This one has passed one line more.
          pub put_next : PutOk plan sh₄ g₄ (upd job p j) w (n + 1)
          put_next =
              record {
                now = K.now;
                past = past-keeps j pp w K.past;
                in_blocks = K.in_blocks;
                passed = passed;
                over = (put₄ w n K).over;
              }
            where
              passed :
                  stat h ≡ decided w → (i : ℕ) → i < n + 1 → i < numblks w
                  → upd g.done (addrlist w n) true (addrlist w i) ≡ true
              passed d i hi hl = go (ℕ_discrete i n)
                where
                  go : Dec (i ≡ n) → upd g.done (addrlist w n) true (addrlist w i) ≡ true
                  go (yes e) = rw e (upd_same g.done _ true)
                  go (no m) = more _ (K.passed d i (omega arith) hl)

          -- The decided update, with this block stored.
          here : stat h ≡ decided w → Settled plan sh₄ g₄ (upd job p j) h w
          here d =
              record {
                old = Z.old;
                new = Z.new;
                ks = Z.ks;
                row = record { count = Z.row.count; addr = Z.row.addr; olds = Z.row.olds; news = Z.row.news };
                past = past-keeps j pp w Z.past;
                stocked = rw (copies-same j cp, l.2) (stock-stored P Z.new Z.ks bank _ l.0 Z.stocked);
                settling = rw (copies-same j cp, l.2) (stores P Z.settling _ l.0);
              }
            where
              Z : Settled plan s.sh g job h w
              Z = E.whole.settled h w d

              l :
                  (is_in (addrlist w n) Z.ks ≡ true) × (oldlist w n ≡ Z.old (addrlist w n))
                  × (newlist w n ≡ Z.new (addrlist w n))
              l = line_of d n hn

          -- The clauses of the running job are asked.
          pub keeps-bank :
              v.flag ≡ true → JobContents plan sh₄ g₄ (upd job p j) p j
              → ContentsHold plan (record { sh = sh₄; job = upd job p j }) g₄
          keeps-bank f own =
              record {
                whole = record { calm = λ nd. calm nd K.now; settled = settled };
                each =
                    λ k. upd-elim (λ x. JobContents plan sh₄ g₄ (upd job p j) k x) job p j k (λ e. rw e own)
                    (λ m. job-keeps plan s.sh sh₄ g g₄ job (upd job p j) refl k (job k)
                    (record {
                      live = λ _ u. absurd (not-undecided u);
                      row = rows_same refl refl refl refl k;
                      put = λ _. put₄;
                      other_row = λ _ x _. rows_same refl refl refl refl x;
                    }) (E.each k));
              }
            where
              calm :
                  ((q x : ℕ) → stat q ≢ decided x) → (stat h ≡ decided w) ⊎ (stat h ≡ finished)
                  → (g.mem ≡ seen P (upd bank (addrlist w n) (newlist w n)) blk) × Stock P
                  (upd bank (addrlist w n) (newlist w n)) (λ x. copy_of (upd job p j x))
              calm nd (inl d) = absurd (nd h w d)
              calm nd (inr d) = rw (bank-same d, copies-same j cp) (E.whole.calm nd)

              settled : (q x : ℕ) → stat q ≡ decided x → Settled plan sh₄ g₄ (upd job p j) q x
              settled q x e = go K.now
                where
                  o : stat h ≡ decided x
                  o = ap stat (sym (D.whole.one q x e).1) ∙ e

                  go : (stat h ≡ decided w) ⊎ (stat h ≡ finished) → Settled plan sh₄ g₄ (upd job p j) q x
                  go (inr d) = absurd (decided≢finished o d)
                  go (inl d) =
                      subst (λ t. Settled plan sh₄ g₄ (upd job p j) q t) (decider-same d o)
                      (subst (λ t. Settled plan sh₄ g₄ (upd job p j) t w) (sym (D.whole.one q x e).1) (here d))

      -- H42 done.
      module _ (q : ℕ) (eq : q ≡ h) (d : stat h ≡ decided w) (en : n ≡ numblks w) (j : Working)
          (cp : j.copy ≡ (job p).copy) (pp : Past v (job p) → Past v j) where
        -- The scene with the chief's status N.
        abbrev sh₅ : Scene
        sh₅ = with_cells ann (upd stat q finished) trans s.sh

        -- The memory with the update run whole; no block counts as stored.
        abbrev g₅ : Ghost
        g₅ = record { mem = exec (P.ops (trans q)) g.mem 0; done = λ _. false }

        -- The update before, decided by w.
        Z₅ : Settled plan s.sh g job h w
        Z₅ = E.whole.settled h w d

        -- All blocks of the row are stored.
        all_done : (k : ℕ) → is_in k Z₅.ks ≡ true → g.done k ≡ true
        all_done k m =
            let x = listed-place Z₅.ks k m in
            let lt : x.0 < numblks w = rw Z₅.row.count x.1 in
            rw (Z₅.row.addr x.0 x.1 ∙ x.2) at (K.passed d x.0 (omega arith) lt)

        -- The chief is finished.
        fin-now : upd stat q finished h ≡ finished
        fin-now = upd-at stat q finished h (sym eq)

        -- Nothing is decided any more.
        no_more : (r x : ℕ) → upd stat q finished r ≢ decided x
        no_more r x =
            upd-elim (λ y. y ≢ decided x) stat q finished r (λ _ e. decided≢finished e refl)
            (λ m e. m ((D.whole.one r x e).1 ∙ sym eq))

        -- The bank is as it was to be.
        settled-bank : (k : ℕ) → settled_bank P Z₅.new Z₅.ks bank k ≡ bank k
        settled-bank k = go (is_in k Z₅.ks) refl
          where
            go : (c : Bool) → is_in k Z₅.ks ≡ c → cond c (Z₅.new k) (bank k) ≡ bank k
            go true m = sym (Z₅.settling.stored k (all_done k m)).1
            go false m = refl

        -- Every reader of a row finds the new numbers in the bank.
        put₅ : (x m : ℕ) → PutOk plan s.sh g job x m → PutOk plan sh₅ g₅ (upd job p j) x m
        unfolding Z₅
        put₅ x m L =
            record {
              now = inr fin-now;
              past = past-keeps j pp x L.past;
              in_blocks = L.in_blocks;
              passed = λ e. absurd (decided≢finished e fin-now);
              over = λ _. over L.now;
            }
          where
            over :
                (stat h ≡ decided x) ⊎ (stat h ≡ finished) → (i : ℕ) → i < numblks x → bank (addrlist x i) ≡ newlist x i
            over (inr f) = absurd (decided≢finished d f)
            over (inl e) =
                subst (λ t. (i : ℕ) → i < numblks t → bank (addrlist t i) ≡ newlist t i) (decider-same d e)
                (λ i hi. let l = line_of d i hi in (Z₅.settling.stored _ (all_done _ l.0)).1 ∙ sym l.2)

        -- The clauses of the running job are asked.
        pub keeps-commit :
            JobContents plan sh₅ g₅ (upd job p j) p j → ContentsHold plan (record { sh = sh₅; job = upd job p j }) g₅
        keeps-commit own =
            record {
              whole =
                  record {
                    calm =
                        λ _. (
                          ap (λ t. exec (P.ops (trans t)) g.mem 0) eq
                              ∙ sym (commits P Z₅.settling all_done),
                          rw (copies-same j cp)
                              (subst (λ t. Stock P t (λ x. copy_of (job x))) (fun_ext settled-bank) Z₅.stocked),
                        );
                    settled = λ r x e. absurd (no_more r x e);
                  };
              each =
                  λ k. upd-elim (λ x. JobContents plan sh₅ g₅ (upd job p j) k x) job p j k (λ e. rw e own)
                  (λ m. job-keeps plan s.sh sh₅ g g₅ job (upd job p j) refl k (job k)
                  (record {
                    live = λ _ u. absurd (false≢true (sym (ap is_undecided fin-now) ∙ u));
                    row = rows_same refl refl refl refl k;
                    put = λ _. put₅;
                    other_row = λ _ x _. rows_same refl refl refl refl x;
                  }) (E.each k));
            }

    -- H25 done: the running job's run is at its end, and its row is published; j is its record with the reclaimed
    -- copies.
    module _ (q : ℕ) (eq : q ≡ h) (u : is_undecided (stat h) ≡ true) (pN : p < P.jobs)
        (L : LiveAt plan s.sh g job [] p (job p)) (O : Olds plan s.sh g job p (job p))
        (W : Published plan s.sh g job p (job p)) (j : Working)
        (rc : copy_of j ≡ reclaim bank (attempt [] (addrlist p) (job p)) (copy_of (job p))) (pj : Past v j) where
      -- The scene with the update decided by p.
      abbrev sh₆ : Scene
      sh₆ = with_cells ann (upd stat q (decided p)) trans s.sh

      -- No block counts as stored yet.
      abbrev g₆ : Ghost
      g₆ = record { mem = g.mem; done = λ _. false }

      -- The run at its end.
      abbrev r₆ : Attempt
      r₆ = attempt [] (addrlist p) (job p)

      -- The chief's update is decided by p.
      now₆ : upd stat q (decided p) h ≡ decided p
      now₆ = upd-at stat q (decided p) h (sym eq)

      -- The copy lists, with the replaced numbers reclaimed.
      copies₆ :
          ◌≡◌ {A = ℕ → ℕ → ℕ} (λ x. copy_of (upd job p j x))
          (upd (λ x. copy_of (job x)) p (reclaim bank r₆ (copy_of (job p))))
      copies₆ = upd-ap copy_of job p j ∙ ap (λ c. upd (λ x. copy_of (job x)) p c) rc

      -- The row of p lists the run's blocks with their old and new numbers.
      row₆ : RowIs plan sh₆ g₆ (upd job p j) bank r₆.curr r₆.order p
      row₆ =
          record {
            count = W.count ∙ sym (length-tabulate (job p).numblks (addrlist p));
            addr = λ i l. sym (at i l);
            olds = λ i l. rw (at i l) (O i (in_row i l));
            news = λ i l. rw (at i l) (W.news i (in_row i l));
          }
        where
          in_row : (i : ℕ) → i < length r₆.order → i < (job p).numblks
          in_row i l = rw (length-tabulate (job p).numblks (addrlist p)) at l

          at : (i : ℕ) → i < length r₆.order → get_or r₆.order i 0 ≡ addrlist p i
          at i l = get_d_tabulate (job p).numblks (addrlist p) 0 i (in_row i l)

      -- The decided update.
      here₆ : Settled plan sh₆ g₆ (upd job p j) h p
      here₆ =
          record {
            old = bank;
            new = r₆.curr;
            ks = r₆.order;
            row = row₆;
            past = rw (upd_same job p j) pj;
            stocked = rw copies₆ (reclaims P (stock-now u) p L pN);
            settling = rw copies₆ (decides P (stock-now u) p L (E.whole.calm (none-decided u)).0 refl refl);
          }

      -- The clauses of the running job are asked.
      pub keeps-decide :
          JobContents plan sh₆ g₆ (upd job p j) p j → ContentsHold plan (record { sh = sh₆; job = upd job p j }) g₆
      keeps-decide own =
          record {
            whole = record { calm = λ n. absurd (n h p now₆); settled = settled };
            each =
                λ k. upd-elim (λ x. JobContents plan sh₆ g₆ (upd job p j) k x) job p j k (λ e. rw e own)
                (λ m. job-keeps plan s.sh sh₆ g g₆ job (upd job p j) refl k (job k)
                (record {
                  live = λ _ z. absurd (false≢true (sym (ap is_undecided now₆) ∙ z));
                  row = rows_same refl refl refl refl k;
                  put = λ _ w n K. absurd (not-undecided w n K u);
                  other_row = λ _ x _. rows_same refl refl refl refl x;
                }) (E.each k));
          }
        where
          settled : (r x : ℕ) → upd stat q (decided p) r ≡ decided x → Settled plan sh₆ g₆ (upd job p j) r x
          settled r x =
              upd-elim (λ y. y ≡ decided x → Settled plan sh₆ g₆ (upd job p j) r x) stat q (decided p) r
              (λ e z. subst (λ t. Settled plan sh₆ g₆ (upd job p j) r t) (decider-same {x = decided x} (sym z) refl)
              (subst (λ t. Settled plan sh₆ g₆ (upd job p j) t p) (sym (e ∙ eq)) here₆))
              (λ _ e. absurd (none-decided u r x e))

    -- A12: V moves on.
    pub keeps-turn :
        (v' : Version) (j : Working) → v.count + 1 ≡ v'.count → j.copy ≡ (job p).copy
        → JobContents plan (with_v v' s.sh) g (upd job p j) p j → (v.flag ≡ true → stat h ≡ finished)
        → ContentsHold plan (record { sh = with_v v' s.sh; job = upd job p j }) g
    keeps-turn v' j ec cp own fin =
        record {
          whole =
              record {
                calm = λ n. let c = E.whole.calm n in (c.0, rw (copies-same j cp) c.1);
                settled =
                    λ q w e. let o = D.whole.one q w e in
                    absurd (decided≢finished (ap stat (sym o.1) ∙ e) (fin o.0));
              };
          each =
              λ k. upd-elim (λ x. JobContents plan (with_v v' s.sh) g (upd job p j) k x) job p j k (λ e. rw e own)
              (λ _. record {
                roomy = (E.each k).roomy;
                own = (E.each k).own;
                fresh = λ e. absurd (later (job k).ver (D.each k).old e);
              });
        }
      where
        later : (x : Version) → x.count ≤ v.count → x ≡ v' → ⊥
        later x le e = let z : x.count ≡ v'.count = ap (λ y. y.count) e in omega arith

-- Where block numbers stand, whatever is decided.
module _ (plan : Plan) (s : State) (C : CardsHold (layout plan) s) (D : EpochsHold (layout plan) s) (g : Ghost)
    (E : ContentsHold plan s g) where
  -- The chief.
  abbrev leader : ℕ
  leader = head plan s.sh g s.job

  -- Is any update decided? Then it is the chief's.
  decided-now :
      ((q w : ℕ) → s.sh.stat q ≢ decided w) ⊎ ((w : ℕ) × (s.sh.stat leader ≡ decided w))
  decided-now = go (s.sh.stat leader) refl
    where
      go :
          (x : Status) → s.sh.stat leader ≡ x
          → ((q w : ℕ) → s.sh.stat q ≢ decided w) ⊎ ((w : ℕ) × (s.sh.stat leader ≡ decided w))
      go (decided w) e = inr (w, e)
      go undecided e =
          inl (λ q w d. undecided≢decided e (ap s.sh.stat (sym (D.whole.one q w d).1) ∙ d))
      go finished e =
          inl (λ q w d. decided≢finished (ap s.sh.stat (sym (D.whole.one q w d).1) ∙ d) e)

  -- The bank names block numbers, always.
  pub bank-numbers : (k : ℕ) → k < plan.sizes.blocks → s.sh.bank k < stock (layout plan)
  bank-numbers k hk = go decided-now
    where
      go :
          ((q w : ℕ) → s.sh.stat q ≢ decided w) ⊎ ((w : ℕ) × (s.sh.stat leader ≡ decided w))
          → s.sh.bank k < stock (layout plan)
      go (inl n) = (E.whole.calm n).1.bank_in k hk
      go (inr d) =
          let Z = E.whole.settled leader d.0 d.1 in
          bank-known (layout plan) Z.settling Z.stocked (C.whole.in-plan d.0 Z.past.up) k hk

  -- And so do the copy lists.
  pub copy-numbers :
      (q : ℕ) → q < plan.sizes.jobs → (i : ℕ) → i < plan.sizes.copies
      → copy_of (s.job q) i < stock (layout plan)
  copy-numbers q hq i hi = go decided-now
    where
      go :
          ((q w : ℕ) → s.sh.stat q ≢ decided w) ⊎ ((w : ℕ) × (s.sh.stat leader ≡ decided w))
          → copy_of (s.job q) i < stock (layout plan)
      go (inl n) = (E.whole.calm n).1.copy_in q i hq hi
      go (inr d) = (E.whole.settled leader d.0 d.1).stocked.copy_in q i hq hi
