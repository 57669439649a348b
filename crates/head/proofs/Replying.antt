-- What a head does with each kind of message is what the reply says. Assumes nothing.
use Rattle.std.proofs.Common.{◌≡◌, ℕ, zero, suc, ◌<◌, min, Bool, true, false, cond, not, ◌&&◌, ◌||◌, ltb, ◌≢◌, List, ◌++◌, get_or, sym, refl, ap, ◌∙◌, subst, ap₂, inl, inr, arith}
use Rattle.std.proofs.lemmas.List.{get_or-set_other, get_or-replicate}
use Rattle.std.proofs.lemmas.Bool.{cases_Bool, cases_eq, cases_lt, and_parts, or_cases, cond-true, cond-false, lt-ltb, ltb-true, not-true, both_ways}
use Rattle.scale.specs.Operations.{Operations}
use Rattle.job.specs.declared.job.Job.{Job}
use Rattle.job.specs.declared.plan.Plan.{Plan}
use Rattle.job.specs.Lists.{every}
use Rattle.job.specs.Plans.{setups, is_setup, named, unnamed_heads, is_of_job}
use Rattle.link.specs.declared.message.Kind.{Kind}
use Rattle.link.specs.declared.message.Kind.TheVariants.{Request, Report, Notice, Stop}
use Rattle.link.specs.declared.message.Message.{Message}
use Rattle.link.specs.HeadSets.{HeadSet, has_head, with_head, Picks}
use Rattle.link.specs.Posting.{Sent}
use Rattle.link.proofs.Posting.{sent_none}
use Rattle.head.specs.declared.best.Best.{Best}
use Rattle.head.specs.declared.record.State.{State}
use Rattle.head.specs.declared.record.State.TheVariants.{Resting, Gathering, Below}
use Rattle.head.specs.declared.record.Record.{Record}
use Rattle.head.specs.declared.search.Turn.{Turn}
use Rattle.head.specs.declared.respond.Deed.TheVariants.{Goes as GoesOn, Unsuited}
use Rattle.job.specs.Sets.{first_places}
use Rattle.head.specs.SetupSets.{SetupSet, no_setups, has_setup, first_setups}
use Rattle.head.specs.Bests.{hopeless, adopted}
use Rattle.head.specs.Views.{shows, Turns}
use Rattle.head.specs.Replies.{Reply, on_trial, choice, carried, quietly, heard_from, is_last, at_least, gathers_on, reply, asks_picker}
use Rattle.head.specs.Strays.{untried_fit, expects}
use Rattle.head.specs.Readiness.{Ready, Actable, Goes, quiet_turn, Chooses, unsuited, going}
use Rattle.head.proofs.Ranges.{every_at, lawful_present}

-- what a record in range lets a head search on with
pub untried_own : (j : Job) (h : ℕ) (u : SetupSet) → untried_fit j h u ≡ true → (i : ℕ) → has_setup u i ≡ true → is_setup j h i ≡ true
untried_own j h u fit i has = elim (cases_lt i 8) [
  | inl lt ↦ sym (lawful_present (has_setup u i) (is_setup j h i) has) ∙ every_at (λ k. not (has_setup u k) || is_setup j h k) 0 8 i fit (omega arith) (omega arith)
  | inr ge ↦ absurd (both_ways (has_setup u i) (cond-false _ _ _ (Rattle.std.proofs.lemmas.Bool.le-ltb i 8 ge)) has)
]

pub ready_on : {S : Type 0} (j : Job) (h : ℕ) (r : Record S) → Actable j h r → Ready j h r.received r.untried
ready_on j h r a =
    let p = and_parts (is_of_job j r.received) _ a.in_range in
    let q = and_parts (not (named r.received h)) _ p.1 in
    let t = and_parts (is_setup j h r.setup) _ q.1 in
    let u = and_parts (untried_fit j h r.untried) _ t.1 in
    record { head = a.head; of_job = p.0; free = not-true _ q.0; own = untried_own j h r.untried u.0 }

has_none : (i : ℕ) → has_setup no_setups i ≡ false
has_none i = elim (cases_lt i 8) [
  | inl lt ↦ cond-true _ _ _ (lt-ltb i 8 lt) ∙ get_or-replicate 8 i false false lt
  | inr ge ↦ cond-false _ _ _ (Rattle.std.proofs.lemmas.Bool.le-ltb i 8 ge)
]

others_kept : (k i : ℕ) → i ≢ k → get_or (first_setups (suc k)).members i false ≡ get_or (first_setups k).members i false
unfolding first_places
others_kept k i ne = get_or-set_other (first_setups k).members k i true false ne

-- the setups below a number
pub first_below : (k i : ℕ) → has_setup (first_setups k) i ≡ true → i < k
first_below zero i e = absurd (both_ways (has_setup (first_setups zero) i) (unfold first_places in has_none i) e)
first_below (suc k) i e = elim (cases_eq i k) [
  | inl same ↦ omega arith
  | inr ne ↦
      let f : has_setup (first_setups k) i ≡ true = sym (ap (λ (b : Bool). cond (ltb i 8) b false) (others_kept k i ne)) ∙ e in
      let lt = first_below k i f in
      omega arith
]

pub first_own : (j : Job) (h i : ℕ) → has_setup (first_setups (min (setups j h) 8)) i ≡ true → is_setup j h i ≡ true
first_own j h i e = lt-ltb i (setups j h) (omega (arith, first_below (min (setups j h) 8) i e))

module _ {S : Type 0} (s : Operations S) (j : Job) (costs : List S) (r : Record S) (m : Message S) (best : Best S) where
  -- a head that acts as a reply says that the reply to this kind is
  pub goes_by : (kind : Kind) (picked limit : ℕ) (bag : List (Message S)) (t : Turn S) (best' : Best S) (limit' : ℕ) (bag' : List (Message S)) (x : Reply S) → reply s j costs picked r m best kind ≡ x →
      (asks_picker s j costs r m best kind ≡ true → Picks (choice j m.to r) picked) → Turns x.turn r t.known → best' ≡ x.best → t.home ≡ x.home → Sent limit bag (x.notices ++ x.posts) t.lost limit' bag' →
      Goes s j costs r m best kind limit bag t best' limit' bag'
  goes_by kind picked limit bag t best' limit' bag' x is picks looks best_is home sent = record {
    picked = picked;
    picks = picks;
    looks = subst (λ (y : Reply S). Turns y.turn r t.known) (sym is) looks;
    best_is = best_is ∙ ap (λ (y : Reply S). y.best) (sym is);
    home = home ∙ ap (λ (y : Reply S). y.home) (sym is);
    sent = subst (λ (y : Reply S). Sent limit bag (y.notices ++ y.posts) t.lost limit' bag') (sym is) sent;
  }

  unasked : asks_picker s j costs r m best Report ≡ false → asks_picker s j costs r m best Report ≡ true → Picks (choice j m.to r) 0
  unasked n e = absurd (both_ways _ n e)

  -- Report. The numbers that the code has, and what they are by the definitions.
  module _ (gathered : S) (heard : HeadSet) (plan : Plan) (joined : gathered ≡ s.join r.gathered m.cost) (with_it : heard ≡ with_head r.heard m.from) (plan_so : plan ≡ on_trial m.to r) where
    abbrev noted : State → Record S
    noted st = record { state = st; received = r.received; cost = r.cost; sender = r.sender; setup = r.setup; trial = r.trial; untried = r.untried; gathered = gathered; heard = heard }

    noted_is : (st : State) → noted st ≡ heard_from s j costs r m st
    noted_is st = ap₂ (λ (x : S) (y : HeadSet). record { state = st; received = r.received; cost = r.cost; sender = r.sender; setup = r.setup; trial = r.trial; untried = r.untried; gathered = x; heard = y }) joined with_it

    all_heard : every (has_head heard) (unnamed_heads j plan) ≡ is_last s j costs r m
    all_heard = ap₂ (λ (y : HeadSet) (q : Plan). every (has_head y) (unnamed_heads j q)) with_it plan_so

    pub hears_on : (limit : ℕ) (bag : List (Message S)) → every (has_head heard) (unnamed_heads j plan) ≡ false →
        Goes s j costs r m best Report limit bag (record { known = noted Gathering; home = false; lost = false }) best limit bag
    hears_on limit bag missing =
        let last : is_last s j costs r m ≡ false = sym all_heard ∙ missing in
        goes_by Report 0 limit bag _ best limit bag (gathers_on s j costs r m best) (cond-false _ _ _ last)
        (unasked (ap (λ (b : Bool). b && not (hopeless s best (at_least s j costs r m))) last)) (ap shows (noted_is Gathering)) refl refl (sent_none limit bag)

  none_picked : (b : Bool) → b ≡ false → b ≡ true → Picks (choice j m.to r) 0
  none_picked b n e = absurd (both_ways b n e)

  -- Notice and stop.
  pub notices_so : (kept : Best S) (t : Turn S) (limit : ℕ) (bag : List (Message S)) → kept ≡ adopted s (carried m) best → t ≡ quiet_turn r → Goes s j costs r m best Notice limit bag t kept limit bag
  notices_so kept t limit bag is quiet =
      subst (λ (x : Turn S). Goes s j costs r m best Notice limit bag x kept limit bag) (sym quiet)
      (goes_by Notice 0 limit bag (quiet_turn r) kept limit bag (quietly s j costs (adopted s (carried m) best)) refl (none_picked false refl) refl is refl (sent_none limit bag))

  pub stops_so : (kept : Best S) (t : Turn S) (limit : ℕ) (bag : List (Message S)) → kept ≡ carried m → t ≡ quiet_turn r → Goes s j costs r m best Stop limit bag t kept limit bag
  stops_so kept t limit bag is quiet =
      subst (λ (x : Turn S). Goes s j costs r m best Stop limit bag x kept limit bag) (sym quiet)
      (goes_by Stop 0 limit bag (quiet_turn r) kept limit bag (quietly s j costs (carried m)) refl (none_picked false refl) refl is refl (sent_none limit bag))

  -- the case of the match that a state and a kind lead to
  module _ (limit : ℕ) (bag : List (Message S)) (best' : Best S) (limit' : ℕ) (bag' : List (Message S)) where
    pub chooses_going : (kind : Kind) (t : Turn S) → m.kind ≡ kind → (kind ≡ Request → ⊥) → expects r.state kind ≡ true → Goes s j costs r m best kind limit bag t best' limit' bag' →
        Chooses s j costs r m best limit bag (GoesOn t) best' limit' bag'
    chooses_going kind t is other fit so =
        going (λ e. other (sym is ∙ e)) (ap (expects r.state) is ∙ fit) (subst (λ (k : Kind). Goes s j costs r m best k limit bag t best' limit' bag') (sym is) so)

    pub chooses_none : (st : State) (kind : Kind) → r.state ≡ st → m.kind ≡ kind → expects st kind ≡ false → best' ≡ best → limit' ≡ limit → bag' ≡ bag → Chooses s j costs r m best limit bag Unsuited best' limit' bag'
    chooses_none st kind is k none same l b = unsuited (ap₂ expects is k ∙ none) same l b

pub expects_request : (st : State) → expects st Request ≡ true
expects_request Resting = refl
expects_request Gathering = refl
expects_request Below = refl

pub expects_notice : (st : State) → expects st Notice ≡ true
expects_notice Resting = refl
expects_notice Gathering = refl
expects_notice Below = refl

pub expects_stop : (st : State) → expects st Stop ≡ true
expects_stop Resting = refl
expects_stop Gathering = refl
expects_stop Below = refl
