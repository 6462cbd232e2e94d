-- The one-after-another memory when a history grows by an entry: an entry that commits nothing leaves it, an entry that
-- commits a call runs that call's update. Assumes nothing.
--
-- The memory after n entries reads the commits at entries 1 to n and the updates of their calls, no more. A commit at
-- entry n + 1 is none of those, and the calls committed so far stand among the first n entries, which one more entry
-- behind them leaves as they are.
use Prim.Native.Nat.{ℕ, zero, suc, ◌+◌, ◌-◌, ◌*◌, ◌≤◌, ◌<◌}
use mathlib.Core.Path.{◌≡◌, refl, sym, ◌∙◌, ap}
use mathlib.Core.Logic.{◌≢◌}
use mathlib.Core.Bool.{true, or-true, false≢true}
use mathlib.Core.List.{List, [], ◌∷◌, ◌++◌, foldl}
use lib.Dec.{eqb}
use lib.ListN.{length, get_or, length-append, get_or-append}
use lib.Seq.{get_or_at}
use native.Mathlib.Omega.{arith}
use native.Mathlib.Numerals.{add-one}
use borrow.Author.Tests.{eqb-true, eq-eqb, ne_eqb}
use Rattle.spec_text.proofs.Cases.{by-test}
use Rattle.spec_format.specs.declared.Entry.{Entry}
use Rattle.spec_format.specs.declared.Move.{Move}
use Rattle.spec_format.specs.Plan.{Plan, is_in}
use Rattle.spec_format.specs.Sound.{Sound}
use Rattle.spec_machine.specs.Memory.{after_update, Commit, entry_at, job_of, update_of, moves_of, committed_by, memory}
use Rattle.spec_machine.proofs.Words.{update-length}

-- One more entry is one more.
pub length_more : (es : List Entry) (e : Entry) → length (es ++ (e ∷ [])) ≡ length es + 1
length_more es e = length-append es (e ∷ [])

-- An entry that was there is still there with more entries behind it.
pub entry-within :
    (es more : List Entry) (c : ℕ) → 1 ≤ c → c ≤ length es → entry_at (es ++ more) c ≡ entry_at es c
entry-within es more c l h = get_or-append es more _ (c - 1) (omega arith)

-- So it is with one more.
pub entry-before :
    (es : List Entry) (e : Entry) (c : ℕ) → 1 ≤ c → c ≤ length es → entry_at (es ++ (e ∷ [])) c ≡ entry_at es c
entry-before es e = entry-within es (e ∷ [])

-- The entry of the last number is the last one.
pub entry-last : (es : List Entry) (e : Entry) (c : ℕ) → c ≡ length es + 1 → entry_at (es ++ (e ∷ [])) c ≡ e
entry-last es e c h = get_or_at es e [] _ (c - 1) (omega arith)

-- The job of a call that was there is the same.
pub job-before :
    (es : List Entry) (e : Entry) (c : ℕ) → 1 ≤ c → c ≤ length es → job_of (es ++ (e ∷ [])) c ≡ job_of es c
job-before es e c l h = ap (λ (x : Entry). x.first) (entry-before es e c l h)

-- The job of a call by the last entry is the one that it names.
pub job-last : (es : List Entry) (e : Entry) (c : ℕ) → c ≡ length es + 1 → job_of (es ++ (e ∷ [])) c ≡ e.first
job-last es e c h = ap (λ (x : Entry). x.first) (entry-last es e c h)

-- The update of a call that was there has the same number.
pub update-before :
    (es : List Entry) (e : Entry) (c : ℕ) → 1 ≤ c → c ≤ length es → update_of (es ++ (e ∷ [])) c ≡ update_of es c
update-before es e c l h = ap (λ (x : Entry). x.second) (entry-before es e c l h)

-- The update of a call by the last entry is the one that it names.
pub update-last : (es : List Entry) (e : Entry) (c : ℕ) → c ≡ length es + 1 → update_of (es ++ (e ∷ [])) c ≡ e.second
update-last es e c h = ap (λ (x : Entry). x.second) (entry-last es e c h)

-- The moves of a call that was there are the same.
pub moves_before :
    (updates : List (List Move)) (es : List Entry) (e : Entry) (c : ℕ) → 1 ≤ c → c ≤ length es
    → moves_of updates (es ++ (e ∷ [])) c ≡ moves_of updates es c
moves_before updates es e c l h = ap (λ (u : ℕ). get_or updates u []) (update-before es e c l h)

-- A commit at another entry is none of this entry.
pub committed-other :
    (cs : List Commit) (c : Commit) (m : ℕ) → c.entry ≢ m → committed_by (cs ++ (c ∷ [])) m ≡ committed_by cs m
committed-other [] c m n = rw (ne_eqb c.entry m n)
committed-other (x ∷ cs) c m n =
    by-test (eqb x.entry m)
    (λ t. rw t (ap {B = List ℕ} (λ r. x.call ∷ r) (committed-other cs c m n)))
    (λ t. rw t (committed-other cs c m n))

-- A commit at this entry is its last.
pub committed-last :
    (cs : List Commit) (c : Commit) (m : ℕ) → c.entry ≡ m
    → committed_by (cs ++ (c ∷ [])) m ≡ committed_by cs m ++ (c.call ∷ [])
committed-last [] c m e = rw (eq-eqb c.entry m e)
committed-last (x ∷ cs) c m e =
    by-test (eqb x.entry m)
    (λ t. rw t (ap {B = List ℕ} (λ r. x.call ∷ r) (committed-last cs c m e)))
    (λ t. rw t (committed-last cs c m e))

-- All commits are at entries up to n, of calls whose entries are among 1 to n.
pub data Within (n : ℕ) : List Commit → Type 0 where
  no-commit : Within n []
  and-commit :
      {c : Commit} {cs : List Commit} → c.entry ≤ n → 1 ≤ c.call → c.call ≤ n → Within n cs → Within n (c ∷ cs)

-- So they are up to a later entry.
pub within_more : {n : ℕ} {cs : List Commit} → Within n cs → (m : ℕ) → n ≤ m → Within m cs
within_more no-commit m l = no-commit
within_more (and-commit {c} e a b w) m l = and-commit {c = c} (omega arith) a (omega arith) (within_more w m l)

-- One more commit.
pub within-last :
    {n : ℕ} {cs : List Commit} → Within n cs → (c : Commit) → c.entry ≤ n → 1 ≤ c.call → c.call ≤ n
    → Within n (cs ++ (c ∷ []))
within-last no-commit c e a b = and-commit e a b no-commit
within-last (and-commit f g h w) c e a b = and-commit f g h (within-last w c e a b)

-- One more entry, that commits nothing.
pub within-idle : {n : ℕ} {cs : List Commit} → Within n cs → Within (n + 1) cs
within-idle {n} w = within_more w (n + 1) (omega arith)

-- One more entry, that commits a call of an earlier one.
pub within-commit :
    {n : ℕ} {cs : List Commit} → Within n cs → (c : Commit) → c.entry ≡ n + 1 → 1 ≤ c.call → c.call ≤ n
    → Within (n + 1) (cs ++ (c ∷ []))
within-commit w c e a b = within-last (within-idle w) c (omega arith) a (omega arith)

-- An entry behind n commits nothing.
pub none-committed : {n : ℕ} {cs : List Commit} → Within n cs → (m : ℕ) → n < m → committed_by cs m ≡ []
none-committed no-commit m l = refl
none-committed (and-commit {c} e a b w) m l =
    rw (ne_eqb c.entry m (λ q. omega arith)) (none-committed w m l)

-- The entry of a call that is committed is among 1 to n.
pub call-within :
    {n : ℕ} {cs : List Commit} → Within n cs → (m c : ℕ) → is_in c (committed_by cs m) ≡ true → (1 ≤ c) × (c ≤ n)
call-within no-commit m c h = absurd (false≢true h)
call-within (and-commit {c = x} e a b w) m c h =
    by-test (eqb x.entry m)
    (λ t.
    by-test (eqb x.call c)
    (λ q. let z : x.call ≡ c = eqb-true x.call c q in (omega arith, omega arith))
    (λ q. call-within w m c (rw (t, q) at h)))
    (λ t. call-within w m c (rw t at h))

-- Calls run one after another on some words.
abbrev ran : List (List Move) → List Entry → List ℕ → List ℕ → List ℕ
ran updates es words calls = foldl (λ words call. after_update words (moves_of updates es call)) words calls

-- Calls whose updates are the same leave the same words.
ran-same :
    (updates : List (List Move)) (es es' : List Entry) (calls words : List ℕ)
    → ((c : ℕ) → is_in c calls ≡ true → update_of es c ≡ update_of es' c)
    → ran updates es words calls ≡ ran updates es' words calls
ran-same updates es es' [] words h = refl
ran-same updates es es' (c ∷ calls) words h =
    rw (h c (rw (eq-eqb c c refl)))
    (ran-same updates es es' calls (after_update words (moves_of updates es' c))
    (λ d k. h d (rw (k, or-true (eqb c d)))))

-- Calls keep the number of words.
ran-length :
    (updates : List (List Move)) (es : List Entry) (calls words : List ℕ)
    → length (ran updates es words calls) ≡ length words
ran-length updates es [] words = refl
ran-length updates es (c ∷ calls) words =
    ran-length updates es calls (after_update words (moves_of updates es c))
    ∙ update-length words (moves_of updates es c)

-- The memory after n entries reads the commits up to entry n and the updates of their calls, no more.
pub memory-same :
    (opening : List ℕ) (updates : List (List Move)) (es es' : List Entry) (cs cs' : List Commit) (n : ℕ)
    → ((m : ℕ) → m ≤ n → committed_by cs m ≡ committed_by cs' m)
    → ((m c : ℕ) → m ≤ n → is_in c (committed_by cs m) ≡ true → update_of es c ≡ update_of es' c)
    → memory opening updates es cs n ≡ memory opening updates es' cs' n
unfolding memory
memory-same opening updates es es' cs cs' zero h u = refl
memory-same opening updates es es' cs cs' (suc n) h u =
    ran-same updates es es' (committed_by cs (suc n)) (memory opening updates es cs n)
    (λ c k. u (suc n) c (omega arith) k)
    ∙ rw (
      h (suc n) (omega arith),
      memory-same opening updates es es' cs cs' n (λ m l. h m (omega arith)) (λ m c l k. u m c (omega arith) k),
    )

-- The memory keeps the number of words.
pub memory-length :
    (opening : List ℕ) (updates : List (List Move)) (es : List Entry) (cs : List Commit) (n : ℕ)
    → length (memory opening updates es cs n) ≡ length opening
unfolding memory
memory-length opening updates es cs zero = refl
memory-length opening updates es cs (suc n) =
    ran-length updates es (committed_by cs (suc n)) (memory opening updates es cs n)
    ∙ memory-length opening updates es cs n

-- The memory of an accepted plan has B times S words.
pub memory-whole :
    {plan : Plan} → Sound plan → (es : List Entry) (cs : List Commit) (n : ℕ)
    → length (memory plan.words plan.updates es cs n) ≡ plan.sizes.blocks * plan.sizes.words
memory-whole {plan} ok es cs n = memory-length plan.words plan.updates es cs n ∙ ok.all_words

module _ (opening : List ℕ) (updates : List (List Move)) (es : List Entry) (e : Entry) (cs : List Commit) (n : ℕ) where
  -- The memory after n entries does not see one more entry, nor commits behind entry n.
  before :
      length es ≡ n → Within n cs → (cs' : List Commit)
      → ((m : ℕ) → m ≤ n → committed_by cs' m ≡ committed_by cs m)
      → memory opening updates (es ++ (e ∷ [])) cs' n ≡ memory opening updates es cs n
  before len w cs' h =
      sym
      (memory-same opening updates es (es ++ (e ∷ [])) cs cs' n (λ m l. sym (h m l))
      (λ m c l k.
      let b : (1 ≤ c) × (c ≤ n) = call-within w m c k in sym (update-before es e c b.0 (rw len b.1))))

  -- An entry that commits nothing leaves the memory.
  pub memory-idle-suc :
      length es ≡ n → Within n cs
      → memory opening updates (es ++ (e ∷ [])) cs (suc n) ≡ memory opening updates es cs n
  unfolding memory
  memory-idle-suc len w = rw (none-committed w (suc n) (omega arith)) (before len w cs (λ m l. refl))

  -- An entry that commits a call runs that call's update.
  pub memory-commit-suc :
      length es ≡ n → Within n cs → (c : Commit) → c.entry ≡ suc n → 1 ≤ c.call → c.call ≤ n
      → memory opening updates (es ++ (e ∷ [])) (cs ++ (c ∷ [])) (suc n)
      ≡ after_update (memory opening updates es cs n) (moves_of updates es c.call)
  unfolding memory
  memory-commit-suc len w c at a b =
      rw (
        committed-last cs c (suc n) at,
        none-committed w (suc n) (omega arith),
        before len w (cs ++ (c ∷ [])) (λ m l. committed-other cs c m (λ q. omega arith)),
        moves_before updates es e c.call a (rw len b),
      )

  -- An entry that commits nothing, numbered n + 1.
  pub memory-idle :
      length es ≡ n → Within n cs
      → memory opening updates (es ++ (e ∷ [])) cs (n + 1) ≡ memory opening updates es cs n
  memory-idle len w = rw (add-one n) (memory-idle-suc len w)

  -- An entry that commits a call, numbered n + 1.
  pub memory-commit :
      length es ≡ n → Within n cs → (c : Commit) → c.entry ≡ n + 1 → 1 ≤ c.call → c.call ≤ n
      → memory opening updates (es ++ (e ∷ [])) (cs ++ (c ∷ [])) (n + 1)
      ≡ after_update (memory opening updates es cs n) (moves_of updates es c.call)
  memory-commit len w c at a b = rw (add-one n) (memory-commit-suc len w c (omega arith) a b)

module _ (opening : List ℕ) (updates : List (List Move)) (es : List Entry) (e : Entry) (cs : List Commit) where
  -- An entry that commits nothing, as the last of all.
  pub memory-after-idle :
      Within (length es) cs
      → memory opening updates (es ++ (e ∷ [])) cs (length (es ++ (e ∷ []))) ≡ memory opening updates es cs (length es)
  memory-after-idle w = rw (length_more es e) (memory-idle opening updates es e cs (length es) refl w)

  -- An entry that commits a call, as the last of all.
  pub memory-after-commit :
      Within (length es) cs → (c : Commit) → c.entry ≡ length es + 1 → 1 ≤ c.call → c.call ≤ length es
      → memory opening updates (es ++ (e ∷ [])) (cs ++ (c ∷ [])) (length (es ++ (e ∷ [])))
      ≡ after_update (memory opening updates es cs (length es)) (moves_of updates es c.call)
  memory-after-commit w c at a b =
      rw (length_more es e) (memory-commit opening updates es e cs (length es) refl w c at a b)
