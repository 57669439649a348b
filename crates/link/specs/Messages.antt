-- Messages and their kinds. Assumes nothing.
use Rattle.std.specs.Prelude.{ℕ, Bool, true, false, List, codes}
use Rattle.scale.specs.Operations.{Operations}
use Rattle.job.specs.declared.plan.Plan.{Plan as Plans}
use Rattle.job.specs.Plans.{empty}
use Rattle.link.specs.declared.message.Kind.{Kind}
use Rattle.link.specs.declared.message.Kind.TheVariants.{Request, Report, Plan, Return, Notice, Stop}
use Rattle.link.specs.declared.message.Message.{Message}

-- A notice may be dropped; every other message has to come to wait.
abbrev pub is_notice : Kind → Bool
is_notice Request = false
is_notice Report = false
is_notice Plan = false
is_notice Return = false
is_notice Notice = true
is_notice Stop = false

-- a kind in a word, as the bytes of its text
abbrev pub kind_word : Kind → List ℕ
kind_word Request = codes "request"
kind_word Report = codes "report"
kind_word Plan = codes "plan"
kind_word Return = codes "return"
kind_word Notice = codes "notice"
kind_word Stop = codes "stop"

-- the message of a kind to one head from another, in a search, with a plan and a cost
abbrev pub message : {S : Type 0} → Kind → ℕ → ℕ → ℕ → Plans → S → Message S
message k to from v q c = record { kind = k; to = to; from = from; search = v; plan = q; cost = c }

-- the same message to head h
abbrev pub addressed : {S : Type 0} → Message S → ℕ → Message S
addressed m h = message m.kind h m.from m.search m.plan m.cost

-- what a place for messages has before a message was put into it
abbrev pub blank : {S : Type 0} → Operations S → Message S
blank s = message Request 0 0 0 empty s.nothing
