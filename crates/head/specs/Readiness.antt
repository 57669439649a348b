-- What the code of a head asks of its callers and tells them, in terms of the definitions. Assumes nothing.
use Rattle.std.specs.Prelude.{◌≡◌, ℕ, Bool, true, false, cond, List, [], ◌∷◌, ◌++◌, map, ◌==◌, ◌≢◌}
use Rattle.scale.specs.Operations.{Operations}
use Rattle.job.specs.declared.job.Job.{Job}
use Rattle.job.specs.declared.plan.Plan.{Plan}
use Rattle.job.specs.Plans.{is_head, is_setup, named, unnamed_heads, is_of_job}
use Rattle.link.specs.declared.message.Message.{Message}
use Rattle.link.specs.declared.message.Kind.{Kind}
use Rattle.link.specs.declared.message.Kind.TheVariants.{Request, Return}
use Rattle.link.specs.Messages.{message}
use Rattle.link.specs.HeadSets.{no_heads, Picks}
use Rattle.link.specs.Posting.{Sent}
use Rattle.head.specs.declared.record.State.TheVariants.{Resting, Gathering}
use Rattle.head.specs.declared.record.Record.{Record}
use Rattle.head.specs.declared.best.Best.{Best}
use Rattle.head.specs.declared.seat.Seat.{Seat}
use Rattle.head.specs.declared.search.Turn.{Turn}
use Rattle.head.specs.declared.respond.Deed.{Deed}
use Rattle.head.specs.declared.respond.Deed.TheVariants.{Owes, Goes as GoesOn, Unsuited}
use Rattle.head.specs.SetupSets.{SetupSet, has_setup}
use Rattle.head.specs.Views.{view, Turns}
use Rattle.head.specs.Searching.{Searched}
use Rattle.head.specs.Replies.{on_trial, choice, reply, asks_picker}
use Rattle.head.specs.Strays.{is_in_range, is_addressed, is_sound, due, expects}

-- A head can search on: the plan that it was sent is of the job and does not name it, and all setups that are left are its own.
pub record Ready (j : Job) (h : ℕ) (received : Plan) (untried : SetupSet) : Type 0 where
  pub head : is_head j h ≡ true
  pub of_job : is_of_job j received ≡ true
  pub free : named received h ≡ false
  pub own : (i : ℕ) → has_setup untried i ≡ true → is_setup j h i ≡ true

-- the seat that a message is for: its receiver, in its search
abbrev pub seat_of : {S : Type 0} → Message S → Seat
seat_of m = record { head = m.to; search = m.search }

-- a record with another setup on trial
abbrev pub with_trial : {S : Type 0} → Record S → ℕ → S → SetupSet → Record S
with_trial r i c left = record { state = r.state; received = r.received; cost = r.cost; sender = r.sender; setup = i; trial = c; untried = left; gathered = r.gathered; heard = r.heard }

-- A setup is on trial: the record gathers, and has asked each head that the plan with it does not name.
pub record Gathers {S : Type 0} (s : Operations S) (j : Job) (h v : ℕ) (on : Record S) (limit : ℕ) (bag : List (Message S)) (t : Turn S) (limit' : ℕ) (bag' : List (Message S)) : Type 0 where
  pub known_is : t.known ≡ record { state = Gathering; received = on.received; cost = on.cost; sender = on.sender; setup = on.setup; trial = on.trial; untried = on.untried; gathered = s.nothing; heard = no_heads }
  pub not_home : t.home ≡ false
  pub sent : Sent limit bag (map (λ g. message Request g h v (on_trial h on) s.nothing) (unnamed_heads j (on_trial h on))) t.lost limit' bag'

-- The last setup was tried: the record rests, and the sender has the return, or the search is home.
pub record ComesBack {S : Type 0} (h v : ℕ) (r : Record S) (best : Best S) (limit : ℕ) (bag : List (Message S)) (t : Turn S) (limit' : ℕ) (bag' : List (Message S)) : Type 0 where
  pub rests : t.known.state ≡ Resting
  pub home : t.home ≡ (h == 1)
  pub sent : Sent limit bag (cond (h == 1) [] (message Return r.sender h v best.plan best.cost ∷ [])) t.lost limit' bag'

-- What searching on leaves is what the definition says.
pub record Searches {S : Type 0} (r : Searched S) (limit : ℕ) (bag : List (Message S)) (t : Turn S) (best' : Best S) (limit' : ℕ) (bag' : List (Message S)) : Type 0 where
  pub looks : view t.known ≡ r.view
  pub best : best' ≡ r.best
  pub home : t.home ≡ r.home
  pub sent : Sent limit bag (r.notices ++ r.posts) t.lost limit' bag'

-- A head can act on a record that does not rest: the record is in the ranges of the job.
pub record Actable {S : Type 0} (j : Job) (h : ℕ) (r : Record S) : Type 0 where
  pub head : is_head j h ≡ true
  pub in_range : is_in_range j h r ≡ true

-- The head acts as the reply to a message of this kind says, whichever head is picked.
pub record Goes {S : Type 0} (s : Operations S) (j : Job) (costs : List S) (r : Record S) (m : Message S) (best : Best S) (kind : Kind) (limit : ℕ) (bag : List (Message S))
    (t : Turn S) (best' : Best S) (limit' : ℕ) (bag' : List (Message S)) : Type 0 where
  pub picked : ℕ
  pub picks : asks_picker s j costs r m best kind ≡ true → Picks (choice j m.to r) picked
  pub looks : Turns (reply s j costs picked r m best kind).turn r t.known
  pub best_is : best' ≡ (reply s j costs picked r m best kind).best
  pub home : t.home ≡ (reply s j costs picked r m best kind).home
  pub sent : Sent limit bag ((reply s j costs picked r m best kind).notices ++ (reply s j costs picked r m best kind).posts) t.lost limit' bag'

-- A head can begin with the plan of a message: the plan is of the job and does not name it.
pub record Beginnable {S : Type 0} (j : Job) (m : Message S) : Type 0 where
  pub head : is_head j m.to ≡ true
  pub of_job : is_of_job j m.plan ≡ true
  pub free : named m.plan m.to ≡ false

-- the record as it is, and nothing sent
abbrev pub quiet_turn : {S : Type 0} → Record S → Turn S
quiet_turn r = record { known = r; home = false; lost = false }

-- A message fits the job and its record; whether the state is right is left to see. Its search is out where that is asked.
pub record Fitting {S : Type 0} (j : Job) (r : Record S) (m : Message S) : Type 0 where
  pub addressed : is_addressed j m ≡ true
  pub sound : is_sound j m.to r ≡ true
  pub due_so : (out : Bool) × (due j m.kind out r m ≡ true)

-- By the state and the kind: the message does not suit the state, or a report is owed, or the head acts as the reply says.
pub data Chooses {S : Type 0} (s : Operations S) (j : Job) (costs : List S) (r : Record S) (m : Message S) (best : Best S) (limit : ℕ) (bag : List (Message S)) : Deed S → Best S → ℕ → List (Message S) → Type 0 where
  unsuited : {best' : Best S} {limit' : ℕ} {bag' : List (Message S)} → expects r.state m.kind ≡ false → best' ≡ best → limit' ≡ limit → bag' ≡ bag → Chooses s j costs r m best limit bag Unsuited best' limit' bag'
  owing : {best' : Best S} {limit' : ℕ} {bag' : List (Message S)} → m.kind ≡ Request → expects r.state m.kind ≡ true → best' ≡ best → limit' ≡ limit → bag' ≡ bag → Chooses s j costs r m best limit bag Owes best' limit' bag'
  going : {t : Turn S} {best' : Best S} {limit' : ℕ} {bag' : List (Message S)} → (m.kind ≢ Request) → expects r.state m.kind ≡ true → Goes s j costs r m best m.kind limit bag t best' limit' bag' →
      Chooses s j costs r m best limit bag (GoesOn t) best' limit' bag'
