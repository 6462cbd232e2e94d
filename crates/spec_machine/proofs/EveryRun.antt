-- Every run from the opening meets all layers of the invariant. By induction over the entries: a refused entry leaves
-- the state and the history as they were, an accepted call and an item keep each layer, and the list machine does what
-- the view by functions says, because every store stays inside its array.
-- Assumes a sound plan.
use Prim.Native.Nat.{ℕ, ◌+◌}
use mathlib.Core.Path.{◌≡◌, refl, sym, ◌∙◌, ap, subst}
use mathlib.Core.Bool.{false, true≢false}
use mathlib.Core.List.{List, [], ◌∷◌, ◌++◌, foldl, append-nil, append_assoc}
use Rattle.std.specs.Prelude.{Option, Some, None}
use lib.ListN.{length}
use Rattle.spec_text.proofs.Cases.{some-none}
use Rattle.spec_format.specs.declared.Entry.{Entry}
use Rattle.spec_format.specs.Plan.{Plan}
use Rattle.spec_format.specs.Sound.{Sound}
use Rattle.spec_machine.specs.declared.Place.{Place}
use Rattle.spec_machine.specs.declared.Working.{Working}
use Rattle.spec_machine.specs.declared.Out.{Out}
use Rattle.spec_machine.specs.declared.Refusal.{Refusal}
use Rattle.spec_machine.specs.declared.Judgement.{Judgement}
use Rattle.spec_machine.specs.Places.{is_active}
use Rattle.spec_machine.specs.Steps.{Shared, item}
use Rattle.spec_machine.specs.Machine.{Machine, shared_in, work_of, carried_out, item_of}
use Rattle.spec_machine.specs.Entries.{judge, acted}
use Rattle.spec_machine.specs.History.{
  Event,
  call_event,
  item_event,
  Run,
  unless_refused,
  begun,
  judged,
  entered,
  run_of,
}
use Rattle.spec_machine.proofs.View.{Proper, State, state_in, after}
use Rattle.spec_machine.proofs.Sizes.{Sized, Fits}
use Rattle.spec_machine.proofs.ListMachine.{
  view-after,
  sized-after,
  proper-after,
  view-call,
  sized-call,
  shared-call,
  item-seen,
  job-seen,
  CallJudged,
  StepJudged,
  call-judged,
  step-judged,
  sized-opening,
  proper-opening,
}
use Rattle.spec_machine.proofs.SmallSteps.{layout}
use Rattle.spec_machine.proofs.Growing.{length_more}
use Rattle.spec_machine.proofs.Cards.{board, Accepted, accepted, Runs, CardsHold, cards-called}
use Rattle.spec_machine.proofs.CardsKept.{cards-kept}
use Rattle.spec_machine.proofs.Epochs.{EpochsHold}
use Rattle.spec_machine.proofs.EpochsKept.{epochs-kept, epochs-called}
use Rattle.spec_machine.proofs.Contents.{Ghost, ghost, ContentsHold}
use Rattle.spec_machine.proofs.ContentsKept.{contents-kept, contents-called}
use Rattle.spec_machine.proofs.Bypass.{Tally, tally, tally_call, BypassHolds}
use Rattle.spec_machine.proofs.BypassKept.{bypass-kept, bypass-called}
use Rattle.spec_machine.proofs.Opening.{
  opening_ghost,
  opening_tally,
  opening-cards,
  opening-epochs,
  opening-contents,
  opening-bypass,
}
use Rattle.spec_machine.proofs.Told.{Told}
use Rattle.spec_machine.proofs.Events.{length_last}
use Rattle.spec_machine.proofs.ToldKept.{told-opening, told_more, told-call, told-step}

-- All layers in a state: it has come about by the entries es, of which the history h tells.
pub record Layers (plan : Plan) (es : List Entry) (h : List Event) (s : State) : Type 0 where
  pub memory : Ghost
  pub counts : Tally
  pub cards : CardsHold (layout plan) s
  pub epochs : EpochsHold (layout plan) s
  pub contents : ContentsHold plan s memory
  pub bypass : BypassHolds (layout plan) s.sh.v s.sh.ann s.sh.stat s.job counts
  pub told : Told plan es h s memory counts

-- The invariant of a run: the arrays have their lengths, the statuses are proper, all layers hold, and unless an entry
-- was refused the history tells of every entry.
pub record Inv (plan : Plan) (es : List Entry) (r : Run) : Type 0 where
  pub sized : Sized r.machine
  pub proper : (k : ℕ) → Proper ((shared_in plan r.machine).stat k)
  pub layers : Layers plan es r.history (state_in plan r.machine)
  pub in_step : r.refusal ≡ None → length r.history ≡ length es

-- A place that is not active is Idle.
inactive : (pl : Place) → is_active pl ≡ false → pl ≡ Place.Idle
inactive Place.Idle e = refl
inactive Place.A1 e = absurd (true≢false e)
inactive Place.A2 e = absurd (true≢false e)
inactive Place.A4 e = absurd (true≢false e)
inactive Place.A7 e = absurd (true≢false e)
inactive Place.A10 e = absurd (true≢false e)
inactive Place.A12 e = absurd (true≢false e)
inactive Place.A14 e = absurd (true≢false e)
inactive Place.A15 e = absurd (true≢false e)
inactive Place.H16 e = absurd (true≢false e)
inactive Place.H17 e = absurd (true≢false e)
inactive Place.H21 e = absurd (true≢false e)
inactive (Place.Move st) e = absurd (true≢false e)
inactive Place.H22 e = absurd (true≢false e)
inactive Place.H25 e = absurd (true≢false e)
inactive Place.H32 e = absurd (true≢false e)
inactive Place.H34 e = absurd (true≢false e)
inactive Place.H36 e = absurd (true≢false e)
inactive Place.H37 e = absurd (true≢false e)
inactive Place.H38 e = absurd (true≢false e)
inactive Place.H41 e = absurd (true≢false e)
inactive Place.H42 e = absurd (true≢false e)

module _ (plan : Plan) (ok : Sound plan) where
  -- The opening meets the invariant.
  pub opening-kept : Inv plan [] (begun plan)
  unfolding begun
  opening-kept =
      record {
        sized = sized-opening plan ok;
        proper = proper-opening plan;
        layers =
            record {
              memory = opening_ghost plan;
              counts = opening_tally;
              cards = opening-cards plan ok;
              epochs = opening-epochs plan ok;
              contents = opening-contents plan ok;
              bypass = opening-bypass plan ok;
              told = told-opening plan ok (opening_ghost plan) opening_tally refl;
            };
        in_step = λ _. refl;
      }

  -- One more entry behind a refusal, or refused: the state and the history stay.
  layers-more :
      (es : List Entry) (h : List Event) (s : State) (e : Entry) → Layers plan es h s
      → Layers plan (es ++ (e ∷ [])) h s
  layers-more es h s e L =
      record {
        memory = L.memory;
        counts = L.counts;
        cards = L.cards;
        epochs = L.epochs;
        contents = L.contents;
        bypass = L.bypass;
        told = told_more plan es h s L.memory L.counts L.told e;
      }

  module _ (es : List Entry) (h : List Event) (m : Machine) (sized : Sized m)
      (proper : (k : ℕ) → Proper ((shared_in plan m).stat k)) (L : Layers plan es h (state_in plan m))
      (len : length h ≡ length es) (e : Entry) where
    -- The entries with one more.
    abbrev more : List Entry
    more = es ++ (e ∷ [])

    -- An accepted call.
    call_kept :
        (j u : ℕ) → CallJudged plan m e j u
        → Inv plan more
        (record { machine = acted plan m (Judgement.Calls j u); history = h ++ (call_event h j ∷ []); refusal = None })
    call_kept j u a =
        record {
          sized = sized-call plan m sized j u;
          proper = λ k. subst (λ (c : Shared). Proper (c.stat k)) (sym (shared-call plan m j u)) (proper k);
          layers =
              subst (Layers plan more (h ++ (call_event h j ∷ []))) (sym (view-call plan ok m sized j u a.has-job))
              (record {
                memory = L.memory;
                counts = tally_call j L.counts;
                cards = cards-called (layout plan) (state_in plan m) j u L.cards a.has-job off;
                epochs = epochs-called (layout plan) (state_in plan m) j u L.epochs;
                contents = contents-called plan (state_in plan m) L.memory L.epochs j u off L.contents;
                bypass = bypass-called (layout plan) (state_in plan m) L.counts j u L.bypass;
                told =
                    told-call plan es h (state_in plan m) L.memory L.counts e j u L.told len a.first
                    a.second off L.cards;
              });
          in_step = λ _. length_last h (call_event h j) ∙ ap (λ n. n + 1) len ∙ sym (length_more es e);
        }
      where
        off : ((state_in plan m).job j).place ≡ Place.Idle
        off = inactive ((state_in plan m).job j).place a.idle

    -- An item of job p.
    module _ (p : ℕ) (a : StepJudged plan m e p) where
      -- The working records.
      abbrev job : ℕ → Working
      job = (state_in plan m).job

      -- What the item gives, on the view by functions.
      abbrev o : Out
      o = item plan (shared_in plan m) p (job p).place (job p)

      -- What the plan gives of cards and priorities.
      acc : Accepted (layout plan)
      acc = accepted plan ok

      -- Job p is the active job of highest priority on its card.
      running : Runs (layout plan) (board (state_in plan m)) p
      running = record { up = a.active; top = a.highest }

      -- Its store stays inside the arrays.
      fits : Fits plan o.work o.store
      unfolding state_in
      fits =
          (contents-kept plan ok (shared_in plan m) job L.cards L.epochs L.memory L.contents p running
          ).fits

      -- All layers after it.
      layers-after : Layers plan more (h ++ (item_event h p (job p) o ∷ [])) (after plan p o (state_in plan m))
      unfolding state_in
      layers-after =
          record {
            memory = ghost plan (state_in plan m).sh o.store L.memory;
            counts = tally plan (state_in plan m).sh p o.store L.counts;
            cards = cards-kept plan acc (shared_in plan m) job L.cards p running;
            epochs = epochs-kept plan acc (shared_in plan m) job L.cards L.epochs proper p running;
            contents =
                (contents-kept plan ok (shared_in plan m) job L.cards L.epochs L.memory L.contents p
                running).kept;
            bypass =
                bypass-kept plan acc (shared_in plan m) job L.cards L.epochs L.counts L.bypass p running;
            told =
                told-step plan ok es e h len (shared_in plan m) job L.memory L.counts L.told L.cards
                L.epochs L.bypass p running;
          }

      -- The invariant after it, on the list machine.
      step_kept :
          Inv plan more (record {
            machine = acted plan m (Judgement.Runs p);
            history = h ++ (item_event h p (work_of m p) (item_of plan m p) ∷ []);
            refusal = None;
          })
      unfolding acted
      step_kept =
          subst (λ x. Inv plan more
          (record {
            machine = carried_out plan p x m;
            history = h ++ (item_event h p (work_of m p) x ∷ []);
            refusal = None;
          }))
          (sym (item-seen plan m p a.has-job)) (subst (λ w. Inv plan more
          (record { machine = carried_out plan p o m; history = h ++ (item_event h p w o ∷ []); refusal = None }))
          (job-seen plan m p a.has-job) (record {
            sized = sized-after plan ok m sized p a.has-job o fits;
            proper = proper-after plan m sized p o fits proper;
            layers =
                subst (Layers plan more (h ++ (item_event h p (job p) o ∷ [])))
                (sym (view-after plan ok m sized p a.has-job o fits)) layers-after;
            in_step = λ _. length_last h (item_event h p (job p) o) ∙ ap (λ n. n + 1) len ∙ sym (length_more es e);
          }))

  -- One more entry.
  entry_kept : (es : List Entry) (r : Run) (e : Entry) → Inv plan es r → Inv plan (es ++ (e ∷ [])) (entered plan r e)
  unfolding entered acted
  entry_kept es r e I = go r.refusal refl
    where
      stays :
          (x : Refusal) (f : Option Refusal) → f ≡ Some x
          → Inv plan (es ++ (e ∷ [])) (record { machine = r.machine; history = r.history; refusal = f })
      stays x f q =
          record {
            sized = I.sized;
            proper = I.proper;
            layers = layers-more es r.history (state_in plan r.machine) e I.layers;
            in_step = λ z. let y : Some x ≡ None = sym q ∙ z in absurd (some-none y);
          }

      go :
          (f : Option Refusal) → r.refusal ≡ f
          → Inv plan (es ++ (e ∷ [])) (unless_refused f r (judged plan r (judge plan r.machine e)))
      go (Some x) q = stays x r.refusal q
      go None q = by (judge plan r.machine e) refl
        where
          len : length r.history ≡ length es
          len = I.in_step q

          by : (j : Judgement) → judge plan r.machine e ≡ j → Inv plan (es ++ (e ∷ [])) (judged plan r j)
          by (Judgement.Calls j u) z =
              call_kept es r.history r.machine I.sized I.proper I.layers len e j u
              (call-judged plan r.machine e j u z)
          by (Judgement.Runs p) z =
              step_kept es r.history r.machine I.sized I.proper I.layers len e p
              (step-judged plan r.machine e p z)
          by (Judgement.Refused x) z = stays x (Some x) refl

  -- Some more entries.
  entries-kept : (es fs : List Entry) (r : Run) → Inv plan es r → Inv plan (es ++ fs) (foldl (entered plan) r fs)
  entries-kept es [] r I = subst (λ l. Inv plan l r) (sym (append-nil es)) I
  entries-kept es (f ∷ fs) r I =
      subst (λ l. Inv plan l (foldl (entered plan) (entered plan r f) fs)) (append_assoc es (f ∷ []) fs)
      (entries-kept (es ++ (f ∷ [])) fs (entered plan r f) (entry_kept es r f I))

  -- The invariant holds of every run from the opening.
  pub always : (es : List Entry) → Inv plan es (run_of plan es)
  unfolding run_of
  always es = entries-kept [] es (begun plan) opening-kept
