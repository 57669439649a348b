-- One message to several heads. Assumes nothing.
use Rattle.std.specs.Prelude.{ℕ, List, map}
use Rattle.job.specs.declared.job.Job.{Job}
use Rattle.job.specs.Lists.{those}
use Rattle.job.specs.Plans.{heads}
use Rattle.link.specs.declared.message.Message.{Message}
use Rattle.link.specs.Messages.{addressed}
use Rattle.link.specs.HeadSets.{HeadSet, has_head}

-- the message to each of some heads, in their order
abbrev pub to_each : {S : Type 0} → Message S → List ℕ → List (Message S)
to_each m hs = map (addressed m) hs

-- the heads of the job that are in a set, ascending
abbrev pub heads_of : Job → HeadSet → List ℕ
heads_of j s = those (has_head s) (heads j)
