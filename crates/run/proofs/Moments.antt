-- A moment of a run and the searches that it shows: what its records show of each search, which searches are out, its bests, what waits
-- and the count. And how an act of one head in one search changes that. Serves start, deliver and the theorem. Assumes nothing.
use Rattle.std.proofs.Common.{◌≡◌, ℕ, zero, suc, ◌+◌, ◌-◌, ◌*◌, ◌^◌, ◌<◌, ◌≤◌, Bool, true, cond, not, ◌&&◌, leb, ◌≢◌, ◌⊎◌, List, [], ◌∷◌, ◌++◌, map, length, get_or, set, sym, refl, ap, ◌∙◌, ap₂, inl, inr, arith}
use mathlib.Core.List.{cons≢nil}
use Rattle.std.specs.List.{range_with_len, AllByRecursion as All}
use Rattle.std.proofs.lemmas.Nat.{mul-le}
use Rattle.std.proofs.lemmas.List.{length-set, get_or-set_same, get_or-set_other}
use Rattle.std.proofs.lemmas.Bool.{cases_Bool, cases_eq, cases_lt, cond-true, cond-false, and_from, and_left, and_right, eq-eqb, le-leb, lt-leb}
use Rattle.scale.specs.Operations.{Operations}
use Rattle.job.specs.declared.job.Job.{Job}
use Rattle.job.specs.Plans.{setups, plans}
use Rattle.problem.specs.Bags.{Same}
use Rattle.problem.proofs.Naming.{all_counting}
use Rattle.problem.proofs.Weights.{plans_few}
use Rattle.head.specs.declared.best.Best.{Best}
use Rattle.head.specs.declared.record.Record.{Record}
use Rattle.head.specs.Bests.{at_first}
use Rattle.head.specs.Views.{View, rests, view, Turn, stays, becomes, spot, Turned}
use Rattle.head.specs.Lent.{Enough, blank, best_of}
use Rattle.searches.specs.Cubes.{Problem, Head}
use Rattle.searches.specs.Bests.{Bests, put}
use Rattle.searches.specs.Chains.{Focus, Search}
use Rattle.searches.specs.Moves.{State, is_out, goes_to}
use Rattle.searches.specs.Promises.{Settled}
use Rattle.searches.specs.Invariant.{most_messages}
use Rattle.searches.proofs.Bests.{put_cases}
use Rattle.run.specs.Worlds.{World, come_home}
use Rattle.run.proofs.Bits.{bits, bit_cleared, outs}
use Rattle.run.proofs.Foci.{with_view_else, turned, Shows}
use Rattle.run.proofs.Walking.{among}

-- the numbers of searches
abbrev pub numbers : {S : Type 0} → List (Search S) → List ℕ
numbers ss = map (λ s. s.number) ss

module _ {S : Type 0} where
  pub numbers_stay : (front : List (Search S)) (s : Search S) (back : List (Search S)) (f : Focus S) → numbers (among front (goes_to s f) back) ≡ numbers (among front s back)
  numbers_stay [] s back f = refl
  numbers_stay (x ∷ front) s back f = ap (λ t. x.number ∷ t) (numbers_stay front s back f)

  all_of_numbers : (P : ℕ → Type 0) (ss : List (Search S)) → All P (numbers ss) → All (λ s. P s.number) ss
  all_of_numbers P [] a = tt
  all_of_numbers P (s ∷ ss) a = (a.0, all_of_numbers P ss a.1)

  -- searches numbered one after the other: where one stands tells its number, and the others have other numbers
  pub record Placed (front : List (Search S)) (s : Search S) (back : List (Search S)) (a : ℕ) : Type 0 where
    pub place : s.number ≡ a + length front
    pub before : All (λ x. x.number < s.number) front
    pub behind : All (λ x. s.number < x.number) back

  pub placed : (front : List (Search S)) (s : Search S) (back : List (Search S)) (a d : ℕ) → numbers (among front s back) ≡ range_with_len a d → Placed front s back a
  placed [] s back a zero e = absurd (cons≢nil e)
  placed [] s back a (suc d) e =
      let here : s.number ≡ a = cc in
      let rest : numbers back ≡ range_with_len (a + 1) d = cc in
      record {
        place = omega arith;
        before = tt;
        behind = all_of_numbers (λ k. s.number < k) back (rw rest (all_counting _ (a + 1) d (λ k l u. omega arith)));
      }
  placed (x ∷ front) s back a zero e = absurd (cons≢nil e)
  placed (x ∷ front) s back a (suc d) e =
      let here : x.number ≡ a = cc in
      let rest : numbers (among front s back) ≡ range_with_len (a + 1) d = cc in
      let k = placed front s back (a + 1) d rest in
      record { place = omega (arith, k.place); before = (omega (arith, k.place), k.before); behind = k.behind }

  pub outs_among : (front : List (Search S)) (s : Search S) (back : List (Search S)) → outs (among front s back) ≡ outs front ++ is_out s.focus ∷ outs back
  outs_among [] s back = refl
  outs_among (x ∷ front) s back = ap (λ t. is_out x.focus ∷ t) (outs_among front s back)

  pub outs_length : (ss : List (Search S)) → length (outs ss) ≡ length ss
  outs_length [] = refl
  outs_length (s ∷ ss) = ap suc (outs_length ss)

  -- the number of the searches that are out, once one of them has come home or not
  pub out_goes : (front : List (Search S)) (s : Search S) (back : List (Search S)) (f : Focus S) (out : ℕ) (home : Bool) → s.number ≡ length front → out ≡ bits (outs (among front s back)) →
      is_out s.focus ≡ true → is_out f ≡ not home → cond home (come_home out s.number) out ≡ bits (outs (among front (goes_to s f) back))
  out_goes front s back f out home place e was came =
      let at_place : s.number ≡ length (outs front) = omega (arith, outs_length front) in
      let before : out ≡ bits (outs front ++ true ∷ outs back) = e ∙ ap bits (outs_among front s back) ∙ ap (λ (b : Bool). bits (outs front ++ b ∷ outs back)) was in
      let behind : bits (outs front ++ not home ∷ outs back) ≡ bits (outs (among front (goes_to s f) back)) =
      ap (λ (b : Bool). bits (outs front ++ b ∷ outs back)) (sym came) ∙ ap bits (sym (outs_among front (goes_to s f) back)) in
      elim (cases_Bool home) [
        | inl y ↦ cond-true _ _ _ y ∙ ap₂ come_home before at_place ∙ bit_cleared (outs front) (outs back) ∙ ap (λ (b : Bool). bits (outs front ++ not b ∷ outs back)) (sym y) ∙ behind
        | inr n ↦ cond-false _ _ _ n ∙ before ∙ ap (λ (b : Bool). bits (outs front ++ not b ∷ outs back)) (sym n) ∙ behind
      ]

module _ {S : Type 0} (s : Operations S) where
  -- what the records show of search v at head g; a number that is no head shows nothing
  abbrev pub seen_at : List (Record S) → ℕ → ℕ → View S
  seen_at records v g = cond (leb 1 g && leb g 8) (view (get_or records (spot g v) (blank s))) rests

  pub seen_there : (records : List (Record S)) (v g : ℕ) → 1 ≤ g → g ≤ 8 → seen_at records v g ≡ view (get_or records (spot g v) (blank s))
  seen_there records v g l u = cond-true _ _ _ (and_from _ _ (le-leb _ _ l) (le-leb _ _ u))

  pub seen_nowhere : (records : List (Record S)) (v g : ℕ) → (g < 1) ⊎ (8 < g) → seen_at records v g ≡ rests
  seen_nowhere records v g (inl lt) = cond-false (leb 1 g && leb g 8) _ _ (and_left (leb 1 g) (leb g 8) (lt-leb _ _ lt))
  seen_nowhere records v g (inr gt) = cond-false (leb 1 g && leb g 8) _ _ (and_right (leb 1 g) (leb g 8) (lt-leb _ _ gt))

  -- two lists of records that show the same at one place
  seen_like : (records records' : List (Record S)) (v g : ℕ) → (1 ≤ g → g ≤ 8 → get_or records (spot g v) (blank s) ≡ get_or records' (spot g v) (blank s)) → seen_at records v g ≡ seen_at records' v g
  seen_like records records' v g e = elim (cases_lt g 1) [
    | inl lt ↦ seen_nowhere records v g (inl lt) ∙ sym (seen_nowhere records' v g (inl lt))
    | inr l ↦ elim (cases_lt 8 g) [
      | inl gt ↦ seen_nowhere records v g (inr gt) ∙ sym (seen_nowhere records' v g (inr gt))
      | inr u ↦ seen_there records v g l u ∙ ap view (e l u) ∙ sym (seen_there records' v g l u)
    ]
  ]

  module _ (records records' : List (Record S)) (h v : ℕ) (room : 64 ≤ length records) (low : 1 ≤ h) (high : h ≤ 8) (few : v < 8) where
    pub turned_there : (turn : Turn S) → Turned records (spot h v) turn records' → (g : ℕ) → seen_at records' v g ≡ turned (seen_at records v) h turn g
    turned_there stays e g = ap (λ (rs : List (Record S)). seen_at rs v g) e
    turned_there (becomes x) t g = elim (cases_eq g h) [
      | inl same ↦ ap (λ (rs : List (Record S)). seen_at rs v g) t.2
          ∙ ap (seen_at (set records (spot h v) t.0) v) same
          ∙ seen_there (set records (spot h v) t.0) v h low high
          ∙ ap view (get_or-set_same records (spot h v) t.0 (blank s) (omega arith))
          ∙ t.1
          ∙ sym (cond-true _ _ _ (eq-eqb g h same))
      | inr ne ↦ ap (λ (rs : List (Record S)). seen_at rs v g) t.2
          ∙ seen_like (set records (spot h v) t.0) records v g (λ l u. get_or-set_other records (spot h v) (spot g v) t.0 (blank s) (omega arith))
          ∙ sym (with_view_else (seen_at records v) h x g ne)
    ]

    pub turned_elsewhere : (turn : Turn S) → Turned records (spot h v) turn records' → (u : ℕ) → u < 8 → u ≢ v → (g : ℕ) → seen_at records' u g ≡ seen_at records u g
    turned_elsewhere stays e u fewer ne g = ap (λ (rs : List (Record S)). seen_at rs u g) e
    turned_elsewhere (becomes x) t u fewer ne g = ap (λ (rs : List (Record S)). seen_at rs u g) t.2
        ∙ seen_like (set records (spot h v) t.0) records u g (λ l k. get_or-set_other records (spot h v) (spot g u) t.0 (blank s) (omega arith))

    pub turned_length : (turn : Turn S) → Turned records (spot h v) turn records' → length records' ≡ length records
    turned_length stays e = ap length e
    turned_length (becomes x) t = ap length t.2 ∙ length-set records (spot h v) t.0

  pub best_put : (bests : List (Best S)) (B : Bests S) (b : Best S) (h g : ℕ) → 8 ≤ length bests → 1 ≤ h → h ≤ 8 → 1 ≤ g → get_or bests (g - 1) (at_first s) ≡ B g → get_or (set bests (h - 1) b) (g - 1) (at_first s) ≡ put B h b g
  best_put bests B b h g room l u k e = elim (put_cases B h b g) [
    | inl same ↦ ap (λ (x : ℕ). get_or (set bests (h - 1) b) (x - 1) (at_first s)) same.0 ∙ get_or-set_same bests (h - 1) b (at_first s) (omega arith) ∙ sym same.1
    | inr other ↦
        let ne = other.0 in
        get_or-set_other bests (h - 1) (g - 1) b (at_first s) (λ z. ne (omega arith)) ∙ e ∙ sym other.1
  ]

-- the messages of a run are far fewer than a count can tell
pub most_messages_fit : (j : Job) → most_messages j + 1 ≤ 2 ^ 64 - 1
most_messages_fit j =
    let inner = mul-le (j.heads + 3) (plans j) 11 16777216 (omega (arith, j.eight)) (plans_few j) in
    omega (arith, mul-le (j.heads - 1) ((j.heads + 3) * plans j + 1) 7 184549377 (omega (arith, j.eight)) (omega (arith, inner)))

-- The world shows the searches of a state.
module _ {S : Type 0} (π : Problem S) (limit : ℕ) where
  abbrev pub ShownIn : List (Record S) → Search S → Type 0
  ShownIn records s = Shows π s.root s.focus (seen_at π.scale records s.number)

  pub record Mirrors (st : State S) (w : World S) : Type 0 where
    pub job : w.lent.job ≡ π.job
    pub costs : w.lent.costs ≡ π.costs
    pub limit_is : w.lent.limit ≡ limit
    pub enough : Enough w.lent
    pub numbered : numbers st.searches ≡ range_with_len 0 (setups π.job 1)
    pub each : All (ShownIn w.lent.records) st.searches
    pub out : w.run.out ≡ bits (outs st.searches)
    pub bests : (g : ℕ) → Head π.job g → best_of π.scale w.lent g ≡ st.bests g
    pub bag : Same st.bag w.lent.bag
    pub count : w.run.count ≡ st.count
    pub settled : Settled st.searches
