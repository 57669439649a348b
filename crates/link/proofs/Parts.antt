-- Which part of a bag a message comes from, and which part messages come to. Assumes nothing.
use Rattle.std.proofs.Common.{◌≡◌, ℕ, zero, suc, ◌<◌, List, [], ◌∷◌, ◌++◌, length, get_or, take, drop, set, sym, refl, ap, ◌∙◌, inl, inr, append_assoc, arith}
use Rattle.std.specs.List.{flat_map}
use Rattle.std.proofs.lemmas.List.{set-get_or}
use Rattle.problem.specs.Bags.{Out, here, Same}
use Rattle.link.specs.Parts.{a_search, the_notices, the_stops, TakingTakesFromOnePart, AnsweringKeepsTheParts, SendingKeepsTheParts, NoticingKeepsTheParts, StoppingKeepsTheParts}
use Rattle.link.proofs.Bags.{out_left, out_append, same_refl, same_out, same_sym, same_trans, same_append, same_comm, same_mid, same_cancel}

module _ {Q X : Type 0} (msgs : Q → List X) where
  -- a message of all the searches is one of a single search
  pub record OutOfASearch (searches : List Q) (m : X) (rest : List X) : Type 0 where
    pub place : ℕ
    pub below : place < length searches
    pub state : Q
    pub stands : (d : Q) → get_or searches place d ≡ state
    pub left : List X
    pub out : Out m (msgs state) left
    pub rest_is : rest ≡ flat_map msgs (take place searches) ++ (left ++ flat_map msgs (drop (suc place) searches))

  pub out_of_a_search : {m : X} (searches : List Q) {rest : List X} → Out m (flat_map msgs searches) rest → OutOfASearch searches m rest
  out_of_a_search [] o = elim o [ ]
  out_of_a_search (q ∷ qs) o = elim (out_append (msgs q) (flat_map msgs qs) o) [
    | inl l ↦ record { place = zero; below = omega arith; state = q; stands = λ d. refl; left = l.0; out = l.1; rest_is = l.2 }
    | inr r ↦
        let i = out_of_a_search qs r.1 in
        record {
          place = suc i.place;
          below = omega (arith, i.below);
          state = i.state;
          stands = i.stands;
          left = i.left;
          out = i.out;
          rest_is = r.2 ∙ ap (λ t. msgs q ++ t) i.rest_is ∙ sym (append_assoc (msgs q) (flat_map msgs (take i.place qs)) (i.left ++ flat_map msgs (drop (suc i.place) qs)));
        }
  ]

  -- what a search has on the way, pulled to the front, in whatever state it is
  pub record AtTheFront (searches : List Q) (v : ℕ) : Type 0 where
    pub others : List X
    pub whole : (new : Q) → Same (flat_map msgs (set searches v new)) (msgs new ++ others)

  pub at_the_front : (searches : List Q) (v : ℕ) → v < length searches → AtTheFront searches v
  at_the_front [] v h = elim h [ ]
  at_the_front (q ∷ qs) zero h = record { others = flat_map msgs qs; whole = λ new. same_refl (msgs new ++ flat_map msgs qs) }
  at_the_front (q ∷ qs) (suc v) h =
      let f = at_the_front qs v (omega arith) in
      record {
        others = msgs q ++ f.others;
        whole = λ new. same_trans (same_append (same_refl (msgs q)) (f.whole new)) (same_mid (msgs q) (msgs new) f.others);
      }

module _ {X : Type 0} where
  -- what is sent may be joined to the front part
  pub same_joins_front : (front others tail sent : List X) → Same (((front ++ others) ++ tail) ++ sent) (((front ++ sent) ++ others) ++ tail)
  same_joins_front front others tail sent =
      rw (append_assoc front others tail, append_assoc front (others ++ tail) sent, append_assoc (front ++ sent) others tail, append_assoc front sent (others ++ tail))
      (same_append (same_refl front) (same_comm (others ++ tail) sent))

pub taking_takes_from_one_part : (Q X : Type 0) → TakingTakesFromOnePart Q X
taking_takes_from_one_part Q X msgs searches notices stops bag rest m holds took =
    let t = same_out (same_trans took holds) here in
    elim (out_append (flat_map msgs searches) (notices ++ stops) t.1) [
      | inl l ↦
          let i = out_of_a_search msgs searches l.1 in
          let e = l.2 ∙ ap (λ z. z ++ (notices ++ stops)) i.rest_is in
          a_search (record { place = i.place; below = i.below; state = i.state; stands = i.stands; left = i.left; out = i.out; rest_is = rw e at t.2 })
      | inr r ↦ elim (out_append notices stops r.1) [
        | inl n ↦ the_notices n.0 n.1 (rw (r.2 ∙ ap (λ z. flat_map msgs searches ++ z) n.2) at t.2)
        | inr s ↦ the_stops s.0 s.1 (rw (r.2 ∙ ap (λ z. flat_map msgs searches ++ z) s.2) at t.2)
      ]
    ]

pub answering_keeps_the_parts : (Q X : Type 0) → AnsweringKeepsTheParts Q X
answering_keeps_the_parts Q X msgs searches tail bag rest left sent v old new m below stands holds took out adds =
    let f = at_the_front msgs searches v below in
    let same : set searches v old ≡ searches = ap (set searches v) (sym stands) ∙ set-get_or searches v old in
    let whole : Same (flat_map msgs searches) (msgs old ++ f.others) = rw same at (f.whole old) in
    let taken : Same rest ((left ++ f.others) ++ tail) = same_cancel (same_trans took (same_trans holds (same_append whole (same_refl tail)))) here (out_left tail (out_left f.others out)) in
    let after : Same (flat_map msgs (set searches v new)) ((left ++ sent) ++ f.others) = same_trans (f.whole new) (same_append adds (same_refl f.others)) in
    same_trans (same_append taken (same_refl sent)) (same_trans (same_joins_front left f.others tail sent) (same_sym (same_append after (same_refl tail))))

pub sending_keeps_the_parts : (Q X : Type 0) → SendingKeepsTheParts Q X
sending_keeps_the_parts Q X msgs searches tail bag sent v old new below stands holds adds =
    let f = at_the_front msgs searches v below in
    let same : set searches v old ≡ searches = ap (set searches v) (sym stands) ∙ set-get_or searches v old in
    let whole : Same (flat_map msgs searches) (msgs old ++ f.others) = rw same at (f.whole old) in
    let before : Same bag ((msgs old ++ f.others) ++ tail) = same_trans holds (same_append whole (same_refl tail)) in
    let after : Same (flat_map msgs (set searches v new)) ((msgs old ++ sent) ++ f.others) = same_trans (f.whole new) (same_append adds (same_refl f.others)) in
    same_trans (same_append before (same_refl sent)) (same_trans (same_joins_front (msgs old) f.others tail sent) (same_sym (same_append after (same_refl tail))))

pub noticing_keeps_the_parts : (Q X : Type 0) → NoticingKeepsTheParts Q X
noticing_keeps_the_parts Q X msgs searches notices stops bag sent holds =
    let front = flat_map msgs searches in
    same_trans
    (same_append holds (same_refl sent))
    (rw (append_assoc front (notices ++ stops) sent, append_assoc notices stops sent, append_assoc notices sent stops) (same_append (same_refl front) (same_append (same_refl notices) (same_comm stops sent))))

pub stopping_keeps_the_parts : (Q X : Type 0) → StoppingKeepsTheParts Q X
stopping_keeps_the_parts Q X msgs searches notices stops bag sent holds =
    let front = flat_map msgs searches in
    same_trans (same_append holds (same_refl sent)) (rw (append_assoc front (notices ++ stops) sent, append_assoc notices stops sent) (same_refl (front ++ (notices ++ (stops ++ sent)))))
