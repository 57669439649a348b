use Rattle.std.proofs.Common.{◌≡◌, ℕ, ◌+◌, ◌-◌, ◌<◌, ◌≤◌, List, [], ◌∷◌, ◌++◌, length, get_or, Ok, string_bytes, refl, ap, ◌∙◌, subst, arith, rules}
use Rattle.std.specs.List.{range_with_len, zip}
use Rattle.std.proofs.lemmas.Iterator.{YieldsList-from_range, YieldsList-from_slice, YieldsList-from_zip}
use Rattle.std.proofs.lemmas.Iterator.Consumers.{YieldsList-turn, YieldsList-end}
use Rattle.std.proofs.lemmas.List.{length_push}
use Rattle.std.proofs.lemmas.List.FromFn.{length-range_with_len, get_or-range_with_len}
use Rattle.std.proofs.lemmas.Slice.Zip.{length-zip, get_or-zip}
use Rattle.sheetcheck.proofs.Completing.{NamedBelow, named_below_first, named_below_next, named_below_spelled, given_is_spelled, none_is_spelled}
use Rattle.sheetcheck.proofs.arguments.plan_of.Goals as goal
use Rattle.sheetcheck.proofs.arguments.plan_of.Goals.{In-Some}

-- heads and words side by side: which head and which word the n-th pair has
module _ {W : Type 0} (heads : ℕ) (words : List W) (long : length words ≡ heads) where
  pub record Pair (n h : ℕ) (word : W) : Type 0 where
    pub below : n < heads
    pub head : h ≡ 1 + n
    pub is_word : word ≡ get_or words n word

  pair_at : (n h : ℕ) (word : W) → (n < length (zip (range_with_len 1 heads) words)) × ((h, word) ≡ get_or (zip (range_with_len 1 heads) words) n (h, word)) → Pair n h word
  pair_at n h word at =
      let lt : n < heads = omega (arith, at.0, length-zip (range_with_len 1 heads) words, length-range_with_len 1 heads) in
      let ranged = length-range_with_len 1 heads in
      let same : (h, word) ≡ (get_or (range_with_len 1 heads) n h, get_or words n word) = at.1 ∙ get_or-zip (range_with_len 1 heads) words n (h, word) (omega arith) (omega arith) in
      let first : h ≡ get_or (range_with_len 1 heads) n h = ap (λ (p : ℕ × W). p.0) same in
      record { below = lt; head = first ∙ get_or-range_with_len 1 heads n h lt; is_word = ap (λ (p : ℕ × W). p.1) same }

turn : (c : In-Some) → Pair c.heads-heads.result c.args.words.now c.if-words-heads.false (length c.loop-head.yielded) c.in-Some.head c.in-Some.word.now
turn c =
    let heads = c.heads-heads.result in
    let gives = YieldsList-from_zip {s = c.into_iter-head-iterator.result} (YieldsList-from_range 1 (heads + 1) heads (search rules) (omega arith)) (YieldsList-from_slice c.args.words.now (search rules)) in
    pair_at heads c.args.words.now c.if-words-heads.false (length c.loop-head.yielded) c.in-Some.head c.in-Some.word.now
    (YieldsList-turn gives c.loop-head.yielded c.loop-head.head-iterator c.loop-head.yielded_by c.next.result c.next.new.self (c.in-Some.head, c.in-Some.word) c.in-Some.is c.next.ensures.steps)

-- where the word of a head stands
module _ {W : Type 0} {heads : ℕ} {words : List W} {long : length words ≡ heads} {n h : ℕ} {word : W} (t : Pair heads words long n h word) where
  at_head : word ≡ get_or words (h - 1) word
  at_head = t.is_word ∙ ap (λ (k : ℕ). get_or words k word) (omega (arith, t.head))

pub loop-head-init : goal.loop-head-init
loop-head-init c = rw c.empty-plan.ensures (refl, named_below_first string_bytes c.args.job.now c.args.words.now)

pub returns-in_err-setup-clause-spelled : goal.returns-in_err-setup-clause-spelled
returns-in_err-setup-clause-spelled c = λ q s.
    let t = turn (goal.at.returns-in_err-setup-clause-spelled c).In-Some in
    absurd (none_is_spelled string_bytes c.args.job.now c.args.words.now c.in-Some.head (omega (arith, t.head)) (omega (arith, t.head, t.below, c.heads-heads.ensures))
    c.in-Some.word.now (at_head t) c.as_str.result.now c.as_str.ensures.value c.setup_of.result c.setup_of.ensures.named _ c.in_err-setup.was q s)

pub loop-head-preserved : goal.loop-head-preserved
loop-head-preserved c =
    let job = c.args.job.now in
    let words = c.args.words.now in
    let head = c.in-Some.head in
    let t = turn (goal.at.loop-head-preserved c).In-Some in
    let low : 1 ≤ head = omega (arith, t.head) in
    let high : head ≤ job.heads = omega (arith, t.head, t.below, c.heads-heads.ensures) in
    let says = given_is_spelled string_bytes job words head low high c.in-Some.word.now (at_head t) c.as_str.result.now c.as_str.ensures.value c.setup_of.result c.setup_of.ensures.named _ c.in_ok-setup.was in
    let before : NamedBelow string_bytes job words c.loop-head.plan head = rw t.head c.loop-head.invariant.1 in
    let longer : head + 1 ≡ 1 + length (c.loop-head.yielded ++ (head, c.in-Some.word) ∷ []) = omega (arith, t.head, length_push c.loop-head.yielded (head, c.in-Some.word)) in
    let next = named_below_next string_bytes job words c.loop-head.plan head c.in_ok-setup.setup c.loop-head.invariant.0 low high c.in_ok-setup.ensures.within says before in
    (search rules, subst (λ (m : ℕ). NamedBelow string_bytes job words c.name-plan.result m) longer (rw c.name-plan.ensures next))

pub returns-clause-spelled : goal.returns-clause-spelled
returns-clause-spelled c = λ q s.
    let heads = c.heads-heads.result in
    let words = c.args.words.now in
    let gives = YieldsList-from_zip {s = c.into_iter-head-iterator.result} (YieldsList-from_range 1 (heads + 1) heads (search rules) (omega arith)) (YieldsList-from_slice words (search rules)) in
    let all = YieldsList-end gives c.loop-head.yielded c.loop-head.head-iterator c.loop-head.yielded_by c.next.result c.next.new.self c.in-None.is c.next.ensures.steps in
    let whole : 1 + length c.loop-head.yielded ≡ c.args.job.now.heads + 1 = omega (arith, all.1, length-zip (range_with_len 1 heads) words, length-range_with_len 1 heads, c.heads-heads.ensures) in
    ap Ok (named_below_spelled string_bytes c.args.job.now words c.loop-head.plan (subst (λ (m : ℕ). NamedBelow string_bytes c.args.job.now words c.loop-head.plan m) whole c.loop-head.invariant.1) c.loop-head.invariant.0 q s)
