-- What the code that begins the searches asks and tells, in terms of the definitions. Assumes nothing.
use Rattle.std.specs.Prelude.{◌≡◌, ℕ, ◌<◌, Bool, List, length, slice_index_or}
use Rattle.std.specs.List.{range_with_len}
use Rattle.scale.specs.Operations.{Operations}
use Rattle.job.specs.declared.job.Job.{Job}
use Rattle.job.specs.Plans.{setups, empty}
use Rattle.link.specs.declared.message.Message.{Message}
use Rattle.link.specs.HeadSets.{no_heads}
use Rattle.link.specs.Posting.{Sent}
use Rattle.head.specs.declared.best.Best.{Best}
use Rattle.head.specs.declared.record.Record.{Record}
use Rattle.head.specs.declared.record.State.TheVariants.{Resting}
use Rattle.head.specs.SetupSets.{only_setup}
use Rattle.head.specs.Views.{rests, view}
use Rattle.head.specs.Lent.{blank}
use Rattle.run.specs.Worlds.{all_out}
use Rattle.run.specs.Starting.{Begun, begin}

module _ {S : Type 0} (s : Operations S) where
  -- what head 1 is sent in search v, with setup v to try
  abbrev pub sent_out : ℕ → Record S
  sent_out v = record {
    state = Resting;
    received = empty;
    cost = s.nothing;
    sender = 0;
    setup = 0;
    trial = s.nothing;
    untried = only_setup v;
    gathered = s.nothing;
    heard = no_heads;
  }

  -- the row of head 1 rests
  pub record ReadyToBegin (row : List (Record S)) : Type 0 where
    pub long : length row ≡ 8
    pub at_rest : (k : ℕ) → k < 8 → view (slice_index_or row k (blank s)) ≡ rests

  -- all searches begun, from a best of head 1
  abbrev pub begun_with : Job → List S → Best S → Begun s
  begun_with j costs best = begin s j costs (range_with_len 0 (setups j 1)) best (all_out (setups j 1))

  pub record HasBegun (j : Job) (costs : List S) (best : Best S) (limit : ℕ) (bag : List (Message S)) (out : ℕ) (row' : List (Record S)) (best' : Best S) (limit' : ℕ) (bag' : List (Message S)) : Type 0 where
    pub views : (k : ℕ) → k < 8 → view (slice_index_or row' k (blank s)) ≡ slice_index_or (begun_with j costs best).views k rests
    pub best_is : best' ≡ (begun_with j costs best).best
    pub out_are : out ≡ (begun_with j costs best).out
    pub lost : Bool
    pub sent : Sent limit bag (begun_with j costs best).sends lost limit' bag'
