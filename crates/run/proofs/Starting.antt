-- What a granted start leaves, from what its parts do. Assumes nothing.
use Rattle.std.proofs.Common.{◌≡◌, ℕ, ◌+◌, ◌-◌, ◌<◌, ◌≤◌, List, [], ◌∷◌, ◌++◌, length, get_or, drop, set, replicate, sym, refl, ap, ◌∙◌, subst, ap₂, inl, inr, arith}
use Rattle.std.proofs.lemmas.List.{get_or_append_left, get_or-append_right, get_or-drop, get_or-replicate, drop-drop, drop-append-le, drop_all, length-append, length-drop, length-replicate}
use Rattle.std.proofs.lemmas.Bool.{cases_lt}
use Rattle.scale.specs.Operations.{Operations}
use Rattle.link.specs.declared.message.Message.{Message}
use Rattle.link.specs.Posting.{margin}
use Rattle.head.specs.declared.best.Best.{Best}
use Rattle.head.specs.declared.record.Record.{Record}
use Rattle.head.specs.Bests.{at_first}
use Rattle.head.specs.Views.{rests, view}
use Rattle.head.specs.Lent.{Lent, Enough, lent, blank}
use Rattle.head.proofs.EachHead.{sent_unlost}
use Rattle.run.specs.Starting.{begun, Begins}
use Rattle.run.specs.Beginning.{HasBegun}
use Rattle.run.proofs.Filling.{filled}
use Rattle.run.proofs.Beginning.{views_few}
use Rattle.run.proofs.Losing.{none_lost}

drop_past : {X : Type 0} (n : ℕ) (xs ys : List X) → length xs ≤ n → drop n (xs ++ ys) ≡ drop (n - length xs) ys
drop_past n xs ys h =
    let e : n ≡ length xs + (n - length xs) = omega arith in
    ap (λ (k : ℕ). drop k (xs ++ ys)) e
    ∙ sym (drop-drop (n - length xs) (length xs) (xs ++ ys))
    ∙ ap (drop (n - length xs)) (drop-append-le (length xs) xs ys (omega arith) ∙ ap (λ (zs : List _). zs ++ ys) (drop_all (length xs) xs (omega arith)))

module _ {S : Type 0} (s : Operations S) (l : Lent S) (recs row : List (Record S)) (bests : List (Best S)) (first b : Best S) (out limit' : ℕ) (bag' : List (Message S))
    (enough : Enough l) (wide : margin ≤ l.limit) (none : l.bag ≡ [])
    (rested : recs ≡ filled (blank s) 64 l.records) (cleared : bests ≡ filled (at_first s) 8 l.bests) (fresh : first ≡ at_first s) (long : length row ≡ 8)
    (did : HasBegun s l.job l.costs first l.limit l.bag out row b limit' bag') where
  done : HasBegun s l.job l.costs (at_first s) l.limit [] out row b limit' bag'
  done = subst (λ (x : List (Message S)). HasBegun s l.job l.costs (at_first s) l.limit x out row b limit' bag') none (subst (λ (x : Best S). HasBegun s l.job l.costs x l.limit l.bag out row b limit' bag') fresh did)

  looks : (k : ℕ) → k < 64 → view (get_or (row ++ drop 8 recs) k (blank s)) ≡ get_or (begun s l).views k rests
  looks k lt = elim (cases_lt k 8) [
    | inl low ↦ ap view (get_or_append_left row (drop 8 recs) (blank s) k (omega arith)) ∙ done.views k low
    | inr high ↦
        let e : 8 + (k - 8) ≡ k = omega arith in
        ap view
        (get_or-append_right row (drop 8 recs) 8 k (blank s) long high
        ∙ get_or-drop 8 recs (k - 8) (blank s)
        ∙ ap₂ (λ (i : ℕ) (xs : List (Record S)). get_or xs i (blank s)) e rested
        ∙ get_or_append_left (replicate 64 (blank s)) (drop 64 l.records) (blank s) k (omega (arith, length-replicate 64 (blank s)))
        ∙ get_or-replicate 64 k (blank s) (blank s) lt)
        ∙ sym (views_few s l.job l.costs (at_first s) k high)
  ]

  more : drop 64 (row ++ drop 8 recs) ≡ drop 64 l.records
  more =
      let e : 8 + (64 - length row) ≡ 64 = omega arith in
      let f : 64 - length (replicate 64 (blank s)) ≡ 0 = omega (arith, length-replicate 64 (blank s)) in
      drop_past 64 row (drop 8 recs) (omega arith)
      ∙ drop-drop (64 - length row) 8 recs
      ∙ ap₂ (λ (i : ℕ) (xs : List (Record S)). drop i xs) e rested
      ∙ drop_past 64 (replicate 64 (blank s)) (drop 64 l.records) (omega (arith, length-replicate 64 (blank s)))
      ∙ ap (λ (i : ℕ). drop i (drop 64 l.records)) f

  as_many : length (row ++ drop 8 recs) ≡ length l.records
  as_many = omega (arith, length-append row (drop 8 recs), length-drop 8 recs, ap length rested, length-append (replicate 64 (blank s)) (drop 64 l.records), length-replicate 64 (blank s), length-drop 64 l.records, enough.records, long)

  pub begins : Begins s l (record { out = out; count = 0 }) (lent l.job l.costs (row ++ drop 8 recs) (set bests 0 b) limit' bag')
  begins = record {
    job = refl;
    costs = refl;
    records = looks;
    more_records = more;
    as_many = as_many;
    bests = ap (λ (xs : List (Best S)). set xs 0 b) cleared ∙ ap (λ (x : Best S). (x ∷ replicate 7 (at_first s)) ++ drop 8 l.bests) done.best_is;
    sent = sent_unlost l.limit limit' [] bag' (begun s l).sends done.lost (none_lost s l.job l.costs (at_first s) l.limit wide) done.sent;
    run = ap (λ (o : ℕ). record { out = o; count = 0 }) done.out_are;
  }
