-- The run of a schedule with its history: one list, an event for each accepted entry, read off the entry and the state
-- before it. Which calls there are, and who announced, decided, stored, committed and returned, is read off that list.
-- Assumes nothing.
use Rattle.std.specs.Prelude.{ℕ, ◌+◌, Bool, true, false, ◌&&◌, eqb, length}
use mathlib.Core.List.{List, [], ◌∷◌, ◌++◌, foldl, map}
use Rattle.std.specs.Prelude.{Option, Some, None}
use Rattle.spec_format.specs.declared.Entry.{Entry}
use Rattle.spec_format.specs.Plan.{Plan}
use Rattle.spec_machine.specs.declared.Place.{Place}
use Rattle.spec_machine.specs.declared.Working.{Working}
use Rattle.spec_machine.specs.declared.Store.{Store}
use Rattle.spec_machine.specs.declared.Out.{Out}
use Rattle.spec_machine.specs.declared.Refusal.{Refusal}
use Rattle.spec_machine.specs.declared.Judgement.{Judgement}
use Rattle.spec_machine.specs.Selected.{select}
use Rattle.spec_machine.specs.Memory.{Commit}
use Rattle.spec_machine.specs.Places.{label}
use Rattle.spec_machine.specs.Machine.{Machine, work_of, opening_of, item_of}
use Rattle.spec_machine.specs.Entries.{judge, acted}

-- What an accepted entry did. A call is known by the number of its own entry; 0 stands for no call.
pub record Event : Type 0 where
  -- the entry's number, from 1
  pub entry : ℕ
  -- the job that it called or that ran
  pub job : ℕ
  -- the call that it was done for: the entry itself, where it is a call, else the running job's latest
  pub call : ℕ
  -- the item that it did: the place where the job stood before, Idle where the entry is a call
  pub item : Place
  -- the latest call of job hid
  pub helped : ℕ
  -- the block whose bank entry H41 names
  pub block : ℕ
  -- whether the condition of H25, H41 or H42 held
  pub done : Bool
  -- whether it moved V
  pub moved : Bool

-- The event did the item of this label; 0 is a call.
abbrev pub did : ℕ → Event → Bool
did n e = eqb (label e.item) n

-- "A call is an accepted `call` entry": the event is a call of job k.
abbrev pub calls : ℕ → Event → Bool
calls k e = did 0 e && eqb e.job k

-- "A call's announcement is its first A14": the event is an A14 of call c.
abbrev pub announces : ℕ → Event → Bool
announces c e = did 14 e && eqb e.call c

-- "H25 done decides .. the latest call of job hid, whichever job runs the step": the event decides call c.
abbrev pub decides : ℕ → Event → Bool
decides c e = (did 25 e && e.done) && eqb e.helped c

-- "H41 done stores the block whose bank entry it names, also where old and new are the same": the event stores block b.
abbrev pub stores : ℕ → Event → Bool
stores b e = (did 41 e && e.done) && eqb e.block b

-- "and H42 done commits, the latest call of job hid, whichever job runs the step": the event commits some call.
abbrev pub is_commit : Event → Bool
is_commit e = did 42 e && e.done

-- The event commits call c.
abbrev pub commits : ℕ → Event → Bool
commits c e = is_commit e && eqb e.helped c

-- "it lasts until the job's next A15, its return": the event is the return of call c.
abbrev pub returns : ℕ → Event → Bool
returns c e = did 15 e && eqb e.call c

-- "which entry commits which call".
abbrev pub commits_in : List Event → List Commit
commits_in h = map (λ (e : Event). record { entry = e.entry; call = e.helped }) (select is_commit h)

-- The entry of the last of some events, n where there is none.
abbrev pub last_entry : ℕ → List Event → ℕ
last_entry n [] = n
last_entry n (e ∷ es) = last_entry e.entry es

-- The latest call of job k.
abbrev pub latest : ℕ → List Event → ℕ
latest k h = last_entry 0 (select (calls k) h)

-- Whether a store moves V.
abbrev pub moves_v : Store → Bool
moves_v Store.Nothing = false
moves_v (Store.Version n f) = true
moves_v (Store.Ann r k) = false
moves_v (Store.Stat k x) = false
moves_v (Store.Trans k u) = false
moves_v (Store.Listed i a b) = false
moves_v (Store.Block b c) = false
moves_v (Store.Word b i x) = false
moves_v Store.Published = false
moves_v (Store.Bank b n) = false

-- The event of an accepted call.
abbrev pub call_event : List Event → ℕ → Event
call_event h job =
    record {
      entry = length h + 1;
      job = job;
      call = length h + 1;
      item = Place.Idle;
      helped = 0;
      block = 0;
      done = false;
      moved = false;
    }

-- The event of an item that job p does, whose record before it is w.
abbrev pub item_event : List Event → ℕ → Working → Out → Event
item_event h p w o =
    record {
      entry = length h + 1;
      job = p;
      call = latest p h;
      item = w.place;
      helped = latest w.hid h;
      block = w.addr;
      done = o.done;
      moved = moves_v o.store;
    }

-- The history after an entry that is judged so.
abbrev pub history_after : Plan → Machine → List Event → Judgement → List Event
history_after plan m h (Judgement.Calls job update) = h ++ (call_event h job ∷ [])
history_after plan m h (Judgement.Runs p) = h ++ (item_event h p (work_of m p) (item_of plan m p) ∷ [])
history_after plan m h (Judgement.Refused r) = h

-- The refusal of an entry that is judged so.
abbrev pub refusal_in : Judgement → Option Refusal
refusal_in (Judgement.Calls job update) = None
refusal_in (Judgement.Runs p) = None
refusal_in (Judgement.Refused r) = Some r

-- A run: the state and the history after some entries, and the refusal that stopped it, where one did.
pub record Run : Type 0 where
  pub machine : Machine
  pub history : List Event
  pub refusal : Option Refusal

-- A run before its first entry.
unfoldable pub begun : Plan → Run
begun plan = record { machine = opening_of plan; history = []; refusal = None }

-- A run after an entry that is judged so.
abbrev pub judged : Plan → Run → Judgement → Run
judged plan r j =
    record {
      machine = acted plan r.machine j;
      history = history_after plan r.machine r.history j;
      refusal = refusal_in j;
    }

-- The entry runs, unless the run has stopped.
abbrev pub unless_refused : Option Refusal → Run → Run → Run
unless_refused None r next = next
unless_refused (Some x) r next = r

-- A run after one more entry. The first refusal stops it.
unfoldable pub entered : Plan → Run → Entry → Run
entered plan r e = unless_refused r.refusal r (judged plan r (judge plan r.machine e))

-- The run of a list of entries from the opening state, each on the state the last one left.
unfoldable pub run_of : Plan → List Entry → Run
run_of plan es = foldl (entered plan) (begun plan) es
