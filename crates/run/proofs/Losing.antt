-- Why no message of a start is lost: at most 56 are sent. Each of at most 8 searches asks at most 7 heads or comes home at once, and the
-- stops follow only if all came home. Assumes nothing.
use Rattle.std.proofs.Common.{◌≡◌, ℕ, zero, suc, ◌+◌, ◌-◌, ◌*◌, ◌^◌, ◌<◌, ◌≤◌, max, Bool, true, false, cond, not, eqb, ◌⊎◌, List, [], ◌∷◌, ◌++◌, map, length, sym, refl, ap, ◌∙◌, subst, inl, inr, pow-suc, arith, length-append, pow_pos, pow_mono}
use lib.ListN.{length-map}
use Rattle.std.specs.List.{range_with_len}
use Rattle.std.proofs.lemmas.List.FromFn.{length-range_with_len}
use Rattle.std.proofs.lemmas.List.Elements.{filter-append}
use Rattle.std.proofs.lemmas.Bool.{cases_Bool, cond-true, cond-false, ne_eqb}
use Rattle.scale.specs.Operations.{Operations}
use Rattle.job.specs.declared.job.Job.{Job}
use Rattle.job.specs.declared.plan.Plan.{Plan}
use Rattle.job.specs.Lists.{those}
use Rattle.job.specs.Plans.{setups, heads, empty, name, unnamed_heads, is_complete}
use Rattle.problem.proofs.Bags.{out_length}
use Rattle.problem.proofs.Naming.{those_passes, those_fails, out_unnamed}
use Rattle.link.specs.declared.message.Message.{Message}
use Rattle.link.specs.declared.message.Kind.TheVariants.{Notice}
use Rattle.link.specs.Messages.{is_notice, message}
use Rattle.link.specs.Fitting.{others_of}
use Rattle.link.specs.Posting.{margin, loses}
use Rattle.link.proofs.Fitting.{others_more, others_same, others_fit_beside_notices}
use Rattle.head.specs.declared.best.Best.{Best}
use Rattle.head.specs.SetupSets.{SetupSet, only_setup, without_setup, members}
use Rattle.head.specs.Bests.{hopeless}
use Rattle.head.specs.Searching.{others, Searched, trial_plan, trial_cost, found, notices_of, asks, comes_back, after, trying, search_on}
use Rattle.run.specs.Worlds.{all_out, come_home, stops}
use Rattle.run.specs.Starting.{root, begin}
use Rattle.run.specs.Beginning.{begun_with}

those_few : (p : ℕ → Bool) (xs : List ℕ) → length (those p xs) ≤ length xs
those_few p [] = unfold those in omega arith
those_few p (x ∷ xs) = elim (cases_Bool (p x)) [
  | inl y ↦ rw (those_passes p x xs y) (omega (arith, those_few p xs))
  | inr n ↦ rw (those_fails p x xs n) (omega (arith, those_few p xs))
]

-- at most seven heads are asked, and at most seven are others than head 1
asked_few : (j : Job) (v : ℕ) → v < 255 → length (unnamed_heads j (name empty 1 v)) ≤ 7
asked_few j v small =
    let one_out = out_length (out_unnamed j empty 1 v refl (omega arith) j.one small refl) in
    omega (arith, one_out, those_few (λ h. not (Rattle.job.specs.Plans.named empty h)) (heads j), length-range_with_len 1 j.heads, j.eight)

others_from : (n : ℕ) → n ≤ 8 → length (those (λ g. not (eqb g 1)) (range_with_len 1 n)) ≤ 7
others_from zero few = unfold those in omega arith
others_from (suc n) few = rw (those_fails (λ g. not (eqb g 1)) 1 (range_with_len 2 n) refl) (omega (arith, those_few (λ g. not (eqb g 1)) (range_with_len 2 n), length-range_with_len 2 n))

others_few : (j : Job) → length (others j 1) ≤ 7
others_few j = others_from j.heads j.eight

members_only : (v : ℕ) → v < 8 → members (only_setup v) ≡ v ∷ []
unfolding those
members_only zero lt = refl
members_only (suc zero) lt = refl
members_only (suc (suc zero)) lt = refl
members_only (suc (suc (suc zero))) lt = refl
members_only (suc (suc (suc (suc zero)))) lt = refl
members_only (suc (suc (suc (suc (suc zero))))) lt = refl
members_only (suc (suc (suc (suc (suc (suc zero)))))) lt = refl
members_only (suc (suc (suc (suc (suc (suc (suc zero))))))) lt = refl
members_only (suc (suc (suc (suc (suc (suc (suc (suc k)))))))) lt = absurd (omega arith)

module _ {S : Type 0} where
  others_are_few : (ms : List (Message S)) → length (others_of ms) ≤ length ms
  others_are_few [] = omega arith
  others_are_few (m ∷ ms) = elim (cases_Bool (is_notice m.kind)) [
    | inl n ↦ rw (others_same m ms n) (omega (arith, others_are_few ms))
    | inr o ↦ rw (others_more m ms o) (omega (arith, others_are_few ms))
  ]

  no_others : (v : ℕ) (q : Plan) (c : S) (hs : List ℕ) → others_of ((map (λ g. message Notice g 1 v q c) hs ++ []) ++ []) ≡ []
  no_others v q c [] = refl
  no_others v q c (h ∷ hs) = no_others v q c hs

  others_length : (xs ys : List (Message S)) → length (others_of (xs ++ ys)) ≡ length (others_of xs) + length (others_of ys)
  others_length xs ys = ap length (filter-append (λ m. not (is_notice m.kind)) xs ys) ∙ length-append (others_of xs) (others_of ys)

module _ {S : Type 0} (s : Operations S) (j : Job) (costs : List S) where
  abbrev search : ℕ → Best S → Searched S
  search v b = search_on s j costs 1 v (root s) (only_setup v) b

  -- a search that is begun asks at most seven heads, or comes home and sends nothing but notices
  abbrev Light : Searched S → Type 0
  Light r = ((r.home ≡ true) × (length (others_of (r.notices ++ r.posts)) ≡ 0)) ⊎ ((r.home ≡ false) × (length (others_of (r.notices ++ r.posts)) ≤ 7))

  module _ (v : ℕ) (lt : v < 8) (b : Best S) where
    abbrev left : SetupSet
    left = without_setup (only_setup v) v

    whole : search v b ≡ trying s j costs 1 v (root s) (v ∷ []) (only_setup v) b
    whole = ap (λ (is : List ℕ). trying s j costs 1 v (root s) is (only_setup v) b) (members_only v lt)

    gives_up : hopeless s b (trial_cost s j costs 1 v (root s) v) ≡ true → search v b ≡ comes_back s j costs 1 v (root s) b
    unfolding trying
    gives_up e = whole ∙ cond-true _ _ _ e

    finds : hopeless s b (trial_cost s j costs 1 v (root s) v) ≡ false → is_complete j (trial_plan s j costs 1 v (root s) v) ≡ true →
        search v b ≡ after s j costs 1 v (root s) (notices_of s j costs 1 v (root s) v) (comes_back s j costs 1 v (root s) (found s j costs 1 v (root s) v))
    unfolding trying
    finds e f = whole ∙ cond-false _ _ _ e ∙ cond-true _ _ _ f

    must_ask : hopeless s b (trial_cost s j costs 1 v (root s) v) ≡ false → is_complete j (trial_plan s j costs 1 v (root s) v) ≡ false → search v b ≡ asks s j costs 1 v (root s) v left b
    unfolding trying
    must_ask e f = whole ∙ cond-false _ _ _ e ∙ cond-false _ _ _ f

    light : Light (search v b)
    light = elim (cases_Bool (hopeless s b (trial_cost s j costs 1 v (root s) v))) [
      | inl e ↦ subst Light (sym (gives_up e)) (inl (refl, refl))
      | inr e ↦ elim (cases_Bool (is_complete j (trial_plan s j costs 1 v (root s) v))) [
        | inl f ↦ subst Light (sym (finds e f)) (inl (refl, ap length (no_others v (trial_plan s j costs 1 v (root s) v) (trial_cost s j costs 1 v (root s) v) (others j 1))))
        | inr f ↦
            let posts = (asks s j costs 1 v (root s) v left b).posts in
            let many : length posts ≡ length (unnamed_heads j (name empty 1 v)) = length-map (unnamed_heads j (name empty 1 v)) _ in
            subst Light (sym (must_ask e f)) (inr (refl, omega (arith, others_are_few posts, many, asked_few j v (omega arith))))
      ]
    ]

  sends_one : (v : ℕ) (vs : List ℕ) (b : Best S) (out : ℕ) →
      length (others_of (begin s j costs (v ∷ vs) b out).sends) ≡ length (others_of ((search v b).notices ++ (search v b).posts)) + length (others_of (begin s j costs vs (search v b).best (cond (search v b).home (come_home out v) out)).sends)
  unfolding begin
  sends_one v vs b out = others_length ((search v b).notices ++ (search v b).posts) _

  sends_none : (b : Best S) (out : ℕ) → length (others_of (begin s j costs [] b out).sends) ≡ length (others_of (cond (eqb out 0) (stops j b) []))
  unfolding begin
  sends_none b out = refl

  last_few : (b : Best S) (out : ℕ) → length (others_of (cond (eqb out 0) (stops j b) [])) ≤ 7
  last_few b out = elim (cases_Bool (eqb out 0)) [
    | inl y ↦ rw (cond-true (eqb out 0) (stops j b) [] y) (omega (arith, others_are_few (stops j b), length-map (others j 1) (λ g. message Rattle.link.specs.declared.message.Kind.TheVariants.Stop g 1 0 b.plan b.cost), others_few j))
    | inr n ↦ rw (cond-false (eqb out 0) (stops j b) [] n) (omega arith)
  ]

  last_none : (b : Best S) (out : ℕ) → 0 < out → length (others_of (cond (eqb out 0) (stops j b) [])) ≡ 0
  last_none b out h = ap (λ (ms : List (Message S)). length (others_of ms)) (cond-false (eqb out 0) (stops j b) [] (ne_eqb out 0 (omega arith)))

  -- k searches from v on are left, and out are those and q, which counts the earlier ones that did not come home
  few : (k v q : ℕ) (b : Best S) (out : ℕ) → v + k ≤ 8 → out + 2 ^ v ≡ 2 ^ (v + k) + q →
      (length (others_of (begin s j costs (range_with_len v k) b out).sends) ≤ 7 * max k 1) × (0 < q → length (others_of (begin s j costs (range_with_len v k) b out).sends) ≤ 7 * k)
  few zero v q b out most e =
      let same : v + 0 ≡ v = omega arith in
      let all : out ≡ q = let p = ap (λ (n : ℕ). 2 ^ n) same in omega arith in
      (omega (arith, sends_none b out, last_few b out), λ h. omega (arith, sends_none b out, last_none b out (omega arith)))
  few (suc k) v q b out most e =
      let on : v + suc k ≡ v + 1 + k = omega arith in
      let p : 2 ^ (v + suc k) ≡ 2 ^ (v + 1 + k) = ap (λ (n : ℕ). 2 ^ n) on in
      let twice : 2 ^ (v + 1) ≡ 2 ^ v * 2 = let f : v + 1 ≡ suc v = omega arith in ap (λ (n : ℕ). 2 ^ n) f ∙ pow-suc 2 v in
      let room : 2 ^ (v + 1) ≤ 2 ^ (v + 1 + k) = pow_mono (omega arith) in
      let one = sends_one v (range_with_len (v + 1) k) b out in
      elim (light v (omega arith) b) [
        | inl h ↦
            let o : cond (search v b).home (come_home out v) out ≡ out - 2 ^ v = cond-true _ _ _ h.0 in
            let rest = few k (v + 1) q (search v b).best (cond (search v b).home (come_home out v) out) (omega arith) (omega arith) in
            (omega (arith, one, h.1, rest.0), λ some. omega (arith, one, h.1, rest.1 some))
        | inr h ↦
            let o : cond (search v b).home (come_home out v) out ≡ out = cond-false _ _ _ h.0 in
            let rest = few k (v + 1) (q + 2 ^ v) (search v b).best (cond (search v b).home (come_home out v) out) (omega arith) (omega arith) in
            let m = rest.1 (omega (arith, pow_pos v)) in
            (omega (arith, one, h.1, m), λ some. omega (arith, one, h.1, m))
      ]

  pub none_lost : (b : Best S) (limit : ℕ) → margin ≤ limit → loses limit 0 (begun_with s j costs b).sends ≡ false
  none_lost b limit wide =
      let d = setups j 1 in
      let e : all_out d + 2 ^ 0 ≡ 2 ^ (0 + d) + 0 = let f : 0 + d ≡ d = omega arith in let p = ap (λ (n : ℕ). 2 ^ n) f in omega (arith, pow_pos d) in
      let n = (few d 0 0 b (all_out d) (omega (arith, j.few 0)) e).0 in
      (others_fit_beside_notices S limit 0 0 (begun_with s j costs b).sends wide (omega arith) (omega (arith, n, j.few 0))).none_is_lost
