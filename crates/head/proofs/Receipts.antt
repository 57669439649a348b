-- What a head makes of a message, with its own row of records, and what that comes to in all that is lent. Assumes nothing.
use Rattle.std.proofs.Common.{◌≡◌, ℕ, ◌<◌, ◌≤◌, Bool, true, false, not, ◌&&◌, eqb, ltb, List, get_or, set, Ok, Err, sym, refl, ap, ◌∙◌, subst, ap₂, arith}
use Rattle.std.proofs.lemmas.Bool.{and_parts, ltb-true, leb-true}
use Rattle.scale.specs.Operations.{Operations}
use Rattle.job.specs.declared.job.Job.{Job}
use Rattle.job.specs.declared.refusal.Refusal.TheVariants.{Stray}
use Rattle.job.specs.Plans.{setups, is_head}
use Rattle.problem.proofs.Naming.{setups_few}
use Rattle.problem.proofs.Walks.{head_range}
use Rattle.link.specs.declared.message.Message.{Message}
use Rattle.head.specs.declared.best.Best.{Best}
use Rattle.head.specs.declared.record.Record.{Record}
use Rattle.head.specs.declared.receive.Received.TheVariants.{Owes, Done}
use Rattle.head.specs.declared.search.Turn.{Turn}
use Rattle.head.specs.declared.respond.Deed.TheVariants.{Owes as StillOwes, Goes as GoesOn, Unsuited}
use Rattle.head.specs.Strays.{is_addressed, is_sound, due, expects, fits}
use Rattle.head.specs.Readiness.{Goes, Chooses, unsuited, owing, going}
use Rattle.head.specs.Lent.{blank}
use Rattle.head.specs.Receiving.{owed_for, Responds, strays, leaves_owed, has_acted}

-- an addressed message goes to a head of the job, in one of eight searches
module _ {S : Type 0} (j : Job) (m : Message S) (addressed : is_addressed j m ≡ true) where
  to_head : is_head j m.to ≡ true
  to_head = (and_parts (is_head j m.to) _ addressed).0

  pub to_range : (1 ≤ m.to) × (m.to ≤ 8)
  to_range = let r = head_range j m.to (leb-true 1 (setups j m.to) to_head) in (r.0, omega (arith, r.1, j.eight))

  pub search_small : m.search < 8
  search_small =
      let p = and_parts (is_head j m.to) _ addressed in
      let q = and_parts (is_head j m.from) _ p.1 in
      let r = and_parts (not (eqb m.to m.from)) _ q.1 in
      let t = and_parts (ltb m.search (setups j 1)) _ r.1 in
      omega (arith, ltb-true m.search (setups j 1) t.0, setups_few j 1)

-- The row: `known` is the record that the code has taken out of it.
module _ {S : Type 0} (s : Operations S) (j : Job) (costs : List S) (out : Bool) (row : List (Record S)) (best : Best S) (m : Message S) (limit : ℕ) (bag : List (Message S))
    (known : Record S) (taken_out : known ≡ get_or row m.search (blank s)) (addressed : is_addressed j m ≡ true) where
  abbrev rec : Record S
  rec = get_or row m.search (blank s)

  pub stray_unsound : is_sound j m.to known ≡ false → Responds s j costs out row best m limit bag (Err Stray) row best limit bag
  stray_unsound e =
      let f : is_sound j m.to rec ≡ false = sym (ap (is_sound j m.to) taken_out) ∙ e in
      strays refl (ap₂ (λ (a b : Bool). a && (b && (due j m.kind out rec m && expects rec.state m.kind))) addressed f) refl refl refl refl

  module _ (sound : is_sound j m.to known ≡ true) where
    sound_rec : is_sound j m.to rec ≡ true
    sound_rec = sym (ap (is_sound j m.to) taken_out) ∙ sound

    pub stray_undue : due j m.kind out known m ≡ false → Responds s j costs out row best m limit bag (Err Stray) row best limit bag
    stray_undue e =
        let f : due j m.kind out rec m ≡ false = sym (ap (λ (r : Record S). due j m.kind out r m) taken_out) ∙ e in
        strays refl (ap₂ (λ (a b : Bool). a && (b && (due j m.kind out rec m && expects rec.state m.kind))) addressed sound_rec ∙ ap (λ (b : Bool). b && expects rec.state m.kind) f) refl refl refl refl

    module _ (due_now : due j m.kind out known m ≡ true) (best' : Best S) (limit' : ℕ) (bag' : List (Message S)) where
      due_rec : due j m.kind out rec m ≡ true
      due_rec = sym (ap (λ (r : Record S). due j m.kind out r m) taken_out) ∙ due_now

      fits_as : (b : Bool) → expects known.state m.kind ≡ b → fits j out rec m ≡ b
      fits_as b e =
          ap₂ (λ (x y : Bool). x && (y && (due j m.kind out rec m && expects rec.state m.kind))) addressed sound_rec
          ∙ ap₂ (λ (x y : Bool). x && y) due_rec (sym (ap (λ (r : Record S). expects r.state m.kind) taken_out) ∙ e)

      pub responds_unsuited : Chooses s j costs known m best limit bag Unsuited best' limit' bag' → Responds s j costs out row best m limit bag (Err Stray) row best' limit' bag'
      responds_unsuited (unsuited x a b c) = strays refl (fits_as false x) refl a b c

      pub responds_owing : Chooses s j costs known m best limit bag StillOwes best' limit' bag' → Responds s j costs out row best m limit bag (Ok (Owes (owed_for s m))) row best' limit' bag'
      responds_owing (owing k x a b c) = leaves_owed k (fits_as true x) refl refl a b c

      pub responds_going : (t : Turn S) (row' : List (Record S)) → Chooses s j costs known m best limit bag (GoesOn t) best' limit' bag' → row' ≡ set row m.search t.known →
          Responds s j costs out row best m limit bag (Ok (Done m.kind t.home t.lost)) row' best' limit' bag'
      responds_going t row' (going k x so) is = has_acted t k (fits_as true x) refl (subst (λ (r : Record S). Goes s j costs r m best m.kind limit bag t best' limit' bag') taken_out so) is refl refl
