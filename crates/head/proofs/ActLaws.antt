-- Laws of what a head does: its best, and how much it sends. Assumes nothing.
use Rattle.std.proofs.Common.{◌≡◌, ℕ, zero, suc, ◌+◌, ◌<◌, ◌≤◌, Bool, true, false, cond, not, ◌&&◌, ◌||◌, eqb, ltb, List, [], ◌∷◌, length, sym, refl, ap, ◌∙◌, subst, ap₂, inl, inr, arith}
use Rattle.std.specs.List.{range_with_len, AllByRecursion as All}
use Rattle.std.proofs.lemmas.List.{length-map}
use Rattle.std.proofs.lemmas.Bool.{cases_Bool, cases_eq, cond-true, cond-false, and_parts, and_from, both_ways, lt-ltb, ltb-true, leb-true, not-true}
use Rattle.scale.specs.Operations.{Operations, Laws, AtMost}
use Rattle.job.specs.declared.job.Job.{Job}
use Rattle.job.specs.declared.plan.Plan.{Plan}
use Rattle.job.specs.Lists.{those, every}
use Rattle.job.specs.Plans.{heads, setups, setup, named, name, unnamed_heads, is_head, is_setup, is_complete, is_of_job}
use Rattle.problem.specs.Costs.{plan_cost, against}
use Rattle.problem.proofs.Bags.{out_length}
use Rattle.problem.proofs.Naming.{those_passes, those_fails, all_those, all_counting, out_unnamed, naming_joins_costs, setups_few, setup_name_same, setup_name_other, named_name_other}
use Rattle.problem.proofs.Walks.{head_range}
use Rattle.link.specs.declared.message.Kind.{Kind}
use Rattle.link.specs.declared.message.Kind.TheVariants.{Request, Report, Plan as PlanMessage, Return, Notice, Stop}
use Rattle.link.specs.declared.message.Message.{Message}
use Rattle.link.specs.Messages.{message}
use Rattle.head.specs.declared.best.Best.{Best}
use Rattle.head.specs.declared.record.State.{State}
use Rattle.head.specs.declared.record.State.TheVariants.{Resting, Gathering, Below}
use Rattle.head.specs.declared.record.Record.{Record}
use Rattle.head.specs.SetupSets.{SetupSet, has_setup, without_setup, members, first_setups}
use Rattle.head.specs.Bests.{hopeless, adopted}
use Rattle.head.specs.Searching.{Searched, Task, trial_plan, trial_cost, found, notices_of, asks, after, trying}
use Rattle.head.specs.Replies.{Reply, task, carried, is_last, at_least, on_report, goes_on, gathers_on, hands_on, reply}
use Rattle.head.specs.Strays.{is_addressed, is_sound, sound_in, is_in_range, untried_fit, due, expects, fits}
use Rattle.head.specs.HeadLaws.{Priced, Stands, Carries, BestNeverRises, BestStaysAPlan, FewPosts, ReportTellsTheBound}
use Rattle.head.proofs.Ranges.{every_at}
use Rattle.head.proofs.Replying.{untried_own, first_below}

or_second : (x y : Bool) → y ≡ true → (x || y) ≡ true
or_second true y e = refl
or_second false y e = e

every_from : (p : ℕ → Bool) (a n : ℕ) → ((k : ℕ) → a ≤ k → k < a + n → p k ≡ true) → every p (range_with_len a n) ≡ true
unfolding every
every_from p a zero f = refl
every_from p a (suc n) f = and_from _ _ (f a (omega arith) (omega arith)) (every_from p (a + 1) n (λ k l u. f k (omega arith) (omega arith)))

those_few : (p : ℕ → Bool) (xs : List ℕ) → length (those p xs) ≤ length xs
those_few p [] = unfold those in omega arith
those_few p (x ∷ xs) = elim (cases_Bool (p x)) [
  | inl e ↦ rw (those_passes p x xs e) (omega (arith, those_few p xs))
  | inr e ↦ rw (those_fails p x xs e) (omega (arith, those_few p xs))
]

counting_length : (a n : ℕ) → length (range_with_len a n) ≡ n
counting_length a zero = refl
counting_length a (suc n) = ap suc (counting_length (a + 1) n)

module _ {S : Type 0} {s : Operations S} (laws : Laws s) where
  at_most_itself : (x : S) → AtMost s x x
  at_most_itself x = elim (cases_Bool (s.leq x x)) [ inl e ↦ e | inr e ↦ laws.total x x e ]

  adopted_lower : (new best : Best S) → AtMost s (adopted s new best).cost best.cost
  adopted_lower new best = elim (cases_Bool (s.leq best.cost new.cost)) [
    | inl e ↦ subst (λ (b : Best S). AtMost s b.cost best.cost) (sym (cond-true _ _ _ e)) (at_most_itself best.cost)
    | inr e ↦ subst (λ (b : Best S). AtMost s b.cost best.cost) (sym (cond-false _ _ _ e)) (laws.total best.cost new.cost e)
  ]

  module _ (j : Job) (costs : List S) (h v : ℕ) (t : Task S) where
    -- one setup more: the three ways that it can go
    module _ (P : Searched S → Type 0) (i : ℕ) (is : List ℕ) (left : SetupSet) (best : Best S) where
      by_ways : (hopeless s best (trial_cost s j costs h v t i) ≡ true → P (trying s j costs h v t is (without_setup left i) best)) →
          (hopeless s best (trial_cost s j costs h v t i) ≡ false → is_complete j (trial_plan s j costs h v t i) ≡ true → P (after s j costs h v t (notices_of s j costs h v t i) (trying s j costs h v t is (without_setup left i) (found s j costs h v t i)))) →
          (hopeless s best (trial_cost s j costs h v t i) ≡ false → is_complete j (trial_plan s j costs h v t i) ≡ false → P (asks s j costs h v t i (without_setup left i) best)) →
          P (trying s j costs h v t (i ∷ is) left best)
      unfolding trying
      by_ways a b c = elim (cases_Bool (hopeless s best (trial_cost s j costs h v t i))) [
        | inl e ↦ subst P (sym (cond-true _ _ _ e)) (a e)
        | inr e ↦ elim (cases_Bool (is_complete j (trial_plan s j costs h v t i))) [
          | inl f ↦ subst P (sym (cond-false _ _ _ e ∙ cond-true _ _ _ f)) (b e f)
          | inr f ↦ subst P (sym (cond-false _ _ _ e ∙ cond-false _ _ _ f)) (c e f)
        ]
      ]

    trying_lower : (is : List ℕ) (left : SetupSet) (best : Best S) → AtMost s (trying s j costs h v t is left best).best.cost best.cost
    trying_lower [] left best = unfold trying in at_most_itself best.cost
    trying_lower (i ∷ is) left best =
        by_ways (λ r. AtMost s r.best.cost best.cost) i is left best
        (λ _. trying_lower is (without_setup left i) best)
        (λ e _. laws.transitive _ _ _ (trying_lower is (without_setup left i) (found s j costs h v t i)) (laws.total best.cost (trial_cost s j costs h v t i) e))
        (λ _ _. at_most_itself best.cost)

  report_lower : (j : Job) (costs : List S) (picked : ℕ) (r : Record S) (m : Message S) (best : Best S) → AtMost s (on_report s j costs picked r m best).best.cost best.cost
  report_lower j costs picked r m best = elim (cases_Bool (is_last s j costs r m)) [
    | inr e ↦ subst (λ x. AtMost s x.best.cost best.cost) (sym (cond-false (is_last s j costs r m) _ (gathers_on s j costs r m best) e)) (at_most_itself best.cost)
    | inl e ↦ elim (cases_Bool (hopeless s best (at_least s j costs r m))) [
      | inl f ↦
          subst (λ x. AtMost s x.best.cost best.cost) (sym (cond-true (is_last s j costs r m) _ (gathers_on s j costs r m best) e ∙ cond-true (hopeless s best (at_least s j costs r m)) (goes_on s j costs m.to m.search r best) (hands_on s j costs picked r m best) f))
          (trying_lower j costs m.to m.search (task r) (members r.untried) r.untried best)
      | inr f ↦
          subst (λ x. AtMost s x.best.cost best.cost) (sym (cond-true (is_last s j costs r m) _ (gathers_on s j costs r m best) e ∙ cond-false (hopeless s best (at_least s j costs r m)) (goes_on s j costs m.to m.search r best) (hands_on s j costs picked r m best) f))
          (at_most_itself best.cost)
    ]
  ]

  pub best_never_rises : BestNeverRises s
  best_never_rises j costs picked r m best Request ne = at_most_itself best.cost
  best_never_rises j costs picked r m best Report ne = report_lower j costs picked r m best
  best_never_rises j costs picked r m best PlanMessage ne = trying_lower j costs m.to m.search _ (members (first_setups (setups j m.to))) (first_setups (setups j m.to)) best
  best_never_rises j costs picked r m best Return ne =
      laws.transitive _ _ _ (trying_lower j costs m.to m.search (task r) (members r.untried) r.untried (adopted s (carried m) best)) (adopted_lower (carried m) best)
  best_never_rises j costs picked r m best Notice ne = adopted_lower (carried m) best
  best_never_rises j costs picked r m best Stop ne = absurd (ne refl)

  -- a setup of a head that a plan of the job does not name, beside that plan
  module _ (j : Job) (costs : List S) (q : Plan) (h i : ℕ) (long : length q.setups ≡ 8) (one : 1 ≤ h) (last : h ≤ j.heads) (small : i < setups j h) (of_job : is_of_job j q ≡ true) (free : named q h ≡ false) where
    few : i < 255
    few = omega (arith, setups_few j h)

    at_eight : h ≤ 8
    at_eight = omega (arith, j.eight)

    allowed : (g : ℕ) → 1 ≤ g → g < 1 + 8 → (not (named (name q h i) g) || is_setup j g (setup (name q h i) g)) ≡ true
    allowed g l u = elim (cases_eq g h) [
      | inl same ↦
          let is : is_setup j g (setup (name q h i) g) ≡ true = ap₂ (λ (x y : ℕ). is_setup j x y) same (ap (setup (name q h i)) same ∙ setup_name_same q h i long one at_eight) ∙ lt-ltb i (setups j h) small in
          or_second _ _ is
      | inr ne ↦ ap₂ (λ (x : Bool) (y : ℕ). not x || is_setup j g y) (named_name_other q h i g ne) (setup_name_other q h i g ne) ∙ every_at (λ k. not (named q k) || is_setup j k (setup q k)) 1 8 g of_job l u
    ]

    name_of_job : is_of_job j (name q h i) ≡ true
    name_of_job = every_from (λ g. not (named (name q h i) g) || is_setup j g (setup (name q h i) g)) 1 8 allowed

    name_costs : s.join (plan_cost s costs j q) (against s costs j h i q) ≡ plan_cost s costs j (name q h i)
    name_costs = sym (naming_joins_costs laws costs j q h i long one last few free)

    asks_few : length (unnamed_heads j (name q h i)) ≤ 7
    asks_few = omega (arith, out_length (out_unnamed j q h i long one last few free), those_few (λ k. not (named q k)) (heads j), counting_length 1 j.heads, j.eight)

  -- what a head must have to search on
  pub record Searchable (j : Job) (costs : List S) (h : ℕ) (t : Task S) : Type 0 where
    pub one : 1 ≤ h
    pub last : h ≤ j.heads
    pub priced : Priced s j costs t.received t.cost
    pub of_job : is_of_job j t.received ≡ true
    pub free : named t.received h ≡ false

  module _ (j : Job) (costs : List S) (h v : ℕ) (t : Task S) (so : Searchable j costs h t) where
    found_stands : (i : ℕ) → i < setups j h → is_complete j (trial_plan s j costs h v t i) ≡ true → Stands s j costs (found s j costs h v t i)
    found_stands i small full = inl (
      full,
      name_of_job j costs t.received h i so.priced.long so.one so.last small so.of_job so.free,
      ap (λ (c : S). s.join c (against s costs j h i t.received)) so.priced.costs_so ∙ name_costs j costs t.received h i so.priced.long so.one so.last small so.of_job so.free,
    )

    trying_stands : (is : List ℕ) (left : SetupSet) (best : Best S) → All (λ i. i < setups j h) is → Stands s j costs best → Stands s j costs (trying s j costs h v t is left best).best
    trying_stands [] left best own b = unfold trying in b
    trying_stands (i ∷ is) left best own b =
        by_ways j costs h v t (λ r. Stands s j costs r.best) i is left best
        (λ _. trying_stands is (without_setup left i) best own.1 b)
        (λ _ full. trying_stands is (without_setup left i) (found s j costs h v t i) own.1 (found_stands i own.0 full))
        (λ _ _. b)

    trying_few : (is : List ℕ) (left : SetupSet) (best : Best S) → All (λ i. i < setups j h) is → length (trying s j costs h v t is left best).posts ≤ 7
    trying_few [] left best own = unfold trying in returns_few (eqb h 1)
      where
        returns_few : (b : Bool) → length (cond b [] (message Return t.sender h v best.plan best.cost ∷ [])) ≤ 7
        returns_few true = omega arith
        returns_few false = omega arith
    trying_few (i ∷ is) left best own =
        by_ways j costs h v t (λ r. length r.posts ≤ 7) i is left best
        (λ _. trying_few is (without_setup left i) best own.1)
        (λ _ full. trying_few is (without_setup left i) (found s j costs h v t i) own.1)
        (λ _ _. simp length-map (asks_few j costs t.received h i so.priced.long so.one so.last own.0 so.of_job so.free))

  -- what a message that fits gives its head to search on with
  module _ (j : Job) (costs : List S) (out : Bool) (r : Record S) (m : Message S) (fit : fits j out r m ≡ true) where
    addressed : is_addressed j m ≡ true
    addressed = (and_parts (is_addressed j m) _ fit).0

    sound : is_sound j m.to r ≡ true
    sound = (and_parts (is_sound j m.to r) _ (and_parts (is_addressed j m) _ fit).1).0

    due_so : due j m.kind out r m ≡ true
    due_so = (and_parts (due j m.kind out r m) _ (and_parts (is_sound j m.to r) _ (and_parts (is_addressed j m) _ fit).1).1).0

    expected : expects r.state m.kind ≡ true
    expected = (and_parts (due j m.kind out r m) _ (and_parts (is_sound j m.to r) _ (and_parts (is_addressed j m) _ fit).1).1).1

    head_so : (1 ≤ m.to) × (m.to ≤ j.heads)
    head_so = head_range j m.to (leb-true 1 (setups j m.to) (and_parts (is_head j m.to) _ addressed).0)

    plan_of_job : is_of_job j m.plan ≡ true
    plan_of_job =
        let p = and_parts (is_head j m.to) _ addressed in
        let q = and_parts (is_head j m.from) _ p.1 in
        let u = and_parts (not (eqb m.to m.from)) _ q.1 in
        (and_parts (ltb m.search (setups j 1)) _ u.1).1

    in_range_at : (st : State) → (st ≡ Resting → ⊥) → sound_in j st m.to r ≡ true → is_in_range j m.to r ≡ true
    in_range_at Resting ne e = absurd (ne refl)
    in_range_at Gathering ne e = e
    in_range_at Below ne e = e

    record_fits : (r.state ≡ Resting → ⊥) → Priced s j costs r.received r.cost → Searchable j costs m.to (task r) × All (λ i. i < setups j m.to) (members r.untried)
    record_fits ne priced =
        let a = in_range_at r.state ne sound in
        let p = and_parts (is_of_job j r.received) _ a in
        let q = and_parts (not (named r.received m.to)) _ p.1 in
        let u = and_parts (is_setup j m.to r.setup) _ q.1 in
        let w = and_parts (untried_fit j m.to r.untried) _ u.1 in (
          record { one = head_so.0; last = head_so.1; priced = priced; of_job = p.0; free = not-true _ q.0 },
          all_those (λ i. i < setups j m.to) (has_setup r.untried) (range_with_len 0 8) (all_counting (λ k. has_setup r.untried k ≡ true → k < setups j m.to) 0 8 (λ k _ _ has. ltb-true k (setups j m.to) (untried_own j m.to r.untried w.0 k has))),
        )

    not_resting : (kind : Kind) → expects Resting kind ≡ false → m.kind ≡ kind → r.state ≡ Resting → ⊥
    not_resting kind none is rests = both_ways (expects r.state m.kind) (ap₂ expects rests is ∙ none) expected

    plan_fits : m.kind ≡ PlanMessage → Priced s j costs m.plan m.cost → Searchable j costs m.to (record { received = m.plan; cost = m.cost; sender = m.from })
    plan_fits is priced =
        let d : (not (eqb m.to 1) && not (named m.plan m.to)) ≡ true = subst (λ (k : Kind). due j k out r m ≡ true) is due_so in
        record { one = head_so.0; last = head_so.1; priced = priced; of_job = plan_of_job; free = not-true _ (and_parts (not (eqb m.to 1)) _ d).1 }

    plan_tries : All (λ i. i < setups j m.to) (members (first_setups (setups j m.to)))
    plan_tries = all_those (λ i. i < setups j m.to) (has_setup (first_setups (setups j m.to))) (range_with_len 0 8) (all_counting (λ k. has_setup (first_setups (setups j m.to)) k ≡ true → k < setups j m.to) 0 8 (λ k _ _ has. first_below (setups j m.to) k has))

    -- by the kind of the message: the best, and the number of messages
    module _ (picked : ℕ) (best : Best S) where
      report_ways : (P : Reply S → Type 0) → P (gathers_on s j costs r m best) → P (goes_on s j costs m.to m.search r best) → P (hands_on s j costs picked r m best) → P (on_report s j costs picked r m best)
      report_ways P a b c = elim (cases_Bool (is_last s j costs r m)) [
        | inr e ↦ subst P (sym (cond-false (is_last s j costs r m) _ (gathers_on s j costs r m best) e)) a
        | inl e ↦ elim (cases_Bool (hopeless s best (at_least s j costs r m))) [
          | inl f ↦ subst P (sym (cond-true (is_last s j costs r m) _ (gathers_on s j costs r m best) e ∙ cond-true (hopeless s best (at_least s j costs r m)) (goes_on s j costs m.to m.search r best) (hands_on s j costs picked r m best) f)) b
          | inr f ↦ subst P (sym (cond-true (is_last s j costs r m) _ (gathers_on s j costs r m best) e ∙ cond-false (hopeless s best (at_least s j costs r m)) (goes_on s j costs m.to m.search r best) (hands_on s j costs picked r m best) f)) c
        ]
      ]

      stands_by : (kind : Kind) → m.kind ≡ kind → Carries s j costs kind r m → Stands s j costs best → Stands s j costs (reply s j costs picked r m best kind).best
      stands_by Request is c b = b
      stands_by Report is c b =
          let w = record_fits (not_resting Report refl is) c in
          report_ways (λ x. Stands s j costs x.best) b (trying_stands j costs m.to m.search (task r) w.0 (members r.untried) r.untried best w.1 b) b
      stands_by PlanMessage is c b = trying_stands j costs m.to m.search _ (plan_fits is c) (members (first_setups (setups j m.to))) (first_setups (setups j m.to)) best plan_tries b
      stands_by Return is c b =
          let w = record_fits (not_resting Return refl is) c.0 in
          trying_stands j costs m.to m.search (task r) w.0 (members r.untried) r.untried (adopted s (carried m) best) w.1 (adopted_stands (carried m) c.1 b)
        where
          adopted_stands : (new : Best S) → Stands s j costs new → Stands s j costs best → Stands s j costs (adopted s new best)
          adopted_stands new n o = elim (cases_Bool (s.leq best.cost new.cost)) [
            | inl e ↦ subst (Stands s j costs) (sym (cond-true _ best new e)) o
            | inr e ↦ subst (Stands s j costs) (sym (cond-false _ best new e)) n
          ]
      stands_by Notice is c b = elim (cases_Bool (s.leq best.cost m.cost)) [
        | inl e ↦ subst (Stands s j costs) (sym (cond-true _ best (carried m) e)) b
        | inr e ↦ subst (Stands s j costs) (sym (cond-false _ best (carried m) e)) c
      ]
      stands_by Stop is c b = c

      few_by : (kind : Kind) → m.kind ≡ kind → Carries s j costs kind r m → length (reply s j costs picked r m best kind).posts ≤ 7
      few_by Request is c = omega arith
      few_by Report is c =
          let w = record_fits (not_resting Report refl is) c in
          report_ways (λ x. length x.posts ≤ 7) (omega arith) (trying_few j costs m.to m.search (task r) w.0 (members r.untried) r.untried best w.1) (omega arith)
      few_by PlanMessage is c = trying_few j costs m.to m.search _ (plan_fits is c) (members (first_setups (setups j m.to))) (first_setups (setups j m.to)) best plan_tries
      few_by Return is c =
          let w = record_fits (not_resting Return refl is) c.0 in
          trying_few j costs m.to m.search (task r) w.0 (members r.untried) r.untried (adopted s (carried m) best) w.1
      few_by Notice is c = omega arith
      few_by Stop is c = omega arith

  pub best_stays_a_plan : BestStaysAPlan s
  best_stays_a_plan j costs picked out r m best fit c b = stands_by j costs out r m fit picked best m.kind refl c b

  pub few_posts : FewPosts s
  few_posts j costs picked out r m best fit c = few_by j costs out r m fit picked best m.kind refl c

  pub report_tells_the_bound : ReportTellsTheBound s
  report_tells_the_bound j costs picked r m best = refl
