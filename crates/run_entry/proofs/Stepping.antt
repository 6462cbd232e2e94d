-- An item and its change carried out, and counted, are a step; and tables stay whole where the book changes. Assumes
-- nothing.
use Rattle.std.proofs.Common.{◌≡◌, sym, ◌∙◌, ap, ℕ, ◌<◌, List, length, get_or}
use Rattle.spec_format.specs.Plan.{Plan}
use Rattle.spec_machine.specs.declared.Working.{Working}
use Rattle.spec_machine.specs.declared.Out.{Out}
use Rattle.spec_machine.specs.Steps.{item}
use Rattle.spec_machine.specs.Machine.{carried_out, item_of}
use Rattle.step_cells.specs.declared.Registers.{Registers}
use Rattle.step_cells.specs.declared.Effect.{Effect}
use Rattle.step_cells.specs.declared.Book.{Book}
use Rattle.step_cells.specs.declared.Tables.{Tables}
use Rattle.step_cells.specs.Tables.{Whole, own_of, work_with, idle, machine_of, shared_of}
use Rattle.step_cells.specs.Changed.{with_book}
use Rattle.step_cells.specs.Effects.{Does, ChangeInside, Carried}
use Rattle.step_cells.specs.Book.{counted, book_after}
use Rattle.step_cells.proofs.Works.{work-at}
use Rattle.run_entry.specs.Stepping.{Stepped}

-- Tables with another book, all of whose jobs and cards are there.
pub whole_book :
    (x : Tables) (b : Book) → Whole x → length b.running ≡ 8 → length b.active ≡ 16 → Whole (with_book b x)
whole_book x b a r l =
    record {
      ann = a.ann;
      stat = a.stat;
      trans = a.trans;
      bank = a.bank;
      numblks = a.numblks;
      own = a.own;
      owns = a.owns;
      store = a.store;
      running = r;
      active = l;
    }

module _ (plan : Plan) (p : ℕ) (w : Registers) (r : Effect) (x y : Tables) (few : p < 16) (whole : Whole x)
    (does : Does w.place plan x p w r) (inside : ChangeInside r.registers r.change)
    (carried : Carried plan p r.change x y) (book : y.book ≡ book_after plan x p r.change) (still : Whole y) where
  -- The item that the job stands before.
  its-item : (ws : List Registers) → get_or ws p idle ≡ w
      → item plan (shared_of plan x) p w.place (work_with (own_of x p) w) ≡ item_of plan (machine_of x ws) p
  unfolding item_of
  its-item ws its =
      ap (λ (k : Working). item plan (shared_of plan x) p k.place k)
      (sym (work-at x.own ws p few ∙ ap (work_with (own_of x p)) its))

  pub stepped : Stepped plan p w x r.registers (with_book (counted y.book) y)
  unfolding Does Carried
  stepped =
      record {
        machine_is =
            λ ws all its.
            carried ws r.registers r.done all inside
            ∙ ap (λ o. carried_out plan p o (machine_of x ws)) (does ∙ its-item ws its);
        change = r.change;
        store_is = ap (λ (o : Out). o.store) does;
        book_is = ap counted book;
        whole = whole_book y (counted y.book) still still.running still.active;
      }
