-- The proofs of demand 3, of the stock rule and of what counters show, in the order in which they are read. A layer of
-- the invariant has a file with its clauses, which opens with what they mean and why a step keeps them in plain words,
-- and a file that shows that every item of the step list keeps them (CardsKept, EpochsKept and so on).

-- The sum of an add.
pub mod Sums
-- The state by functions in place of lists, and that the list machine does what the functions say.
pub mod ChangedAt
pub mod View
pub mod Sizes
pub mod ListsByPlace
pub mod ListMachine
-- Case splits on the tests of the step list.
pub mod Tests
-- First layer: who is announced on a card, and whose call is pending.
pub mod Cards
pub mod CardsKept
-- Second layer: what V promises; at most one update is decided and uncommitted.
pub mod Epochs
pub mod EpochsKept
-- Third layer: what the blocks hold. First runs, rows and the stock of block numbers apart from the machine.
pub mod SmallSteps
pub mod Attempts
pub mod AttemptSteps
pub mod Settling
pub mod Pigeonhole
pub mod Words
pub mod Contents
pub mod AttemptsSeen
pub mod ContentsFrame
pub mod ContentsKept
-- Fourth layer: how often a call has committed, and who has passed it.
pub mod Counts
pub mod Bypass
pub mod BypassKept
-- Fifth layer: what the history tells agrees with the state.
pub mod Growing
pub mod Told
pub mod Events
pub mod Telling
pub mod ToldKept
-- The opening, every run, and what demand 3 and the stock rule say of it.
pub mod Opening
pub mod EveryRun
pub mod Answer
pub mod StockRule
pub mod Demand3
-- What words show that the updates only add to.
pub mod Counters
-- Plans that are accepted, and a state in which both cases of the memory clause are met.
pub mod Examples
