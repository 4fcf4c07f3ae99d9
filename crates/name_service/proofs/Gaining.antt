-- Receipts one behind the other.
use Rattle.std.proofs.Common.{◌≡◌, ◌∙◌, Bool, true, false, List, [], ◌∷◌, ◌++◌, map, refl, sym, ap, cond, subst}
use Rattle.std.proofs.lemmas.List.{append-nil, append_assoc}
use Rattle.hdfs_types.specs.declared.op.Request.{Request}
use Rattle.hdfs_types.specs.Request.{is_look}
use Rattle.history.specs.declared.entry.Answer.{Answer}
use Rattle.name_core.specs.NameCore.{NameCore}
use Rattle.name_service.specs.Passes.{Pass, GainsOne, answer_to, look_answer, change_answer}
use Rattle.name_service.specs.Working.{GainsAll}

pub one : (old : Pass) (request : Request) (new : Pass) → GainsOne old request new → GainsAll old (request ∷ []) new
one old request new gained = (new, gained, refl)

pub more : (old : Pass) (front : List Request) (between : Pass) (rest : List Request) (new : Pass) → GainsAll old front between → GainsAll between rest new → GainsAll old (front ++ rest) new
more old [] between rest new gained gains = subst (λ (from : Pass). GainsAll from rest new) gained gains
more old (first ∷ front) between rest new (after, own, others) gains = (after, own, more after front between rest new others gains)

-- ---- the answers that a pass has gained

answers_it : (core : NameCore) (pass : Pass) (request : Request) → (answer_to core pass request).request ≡ request
answers_it core pass request = by (is_look request.op)
  where
    by : (b : Bool) → (cond b (look_answer core request) (change_answer core pass request)).request ≡ request
    by true = refl
    by false = refl

-- one to each of the requests
pub gained : (old : Pass) (requests : List Request) (new : Pass) → GainsAll old requests new
    → (answers : List Answer) × (new.receipts ≡ old.receipts ++ answers) × (map (λ (answer : Answer). answer.request) answers ≡ requests)
gained old [] new same = ([], ap (λ (pass : Pass). pass.receipts) same ∙ sym (append-nil old.receipts), refl)
gained old (request ∷ requests) new (between, (answer, gains), rest) = more (gained between requests new rest)
  where
    is : answer.request ≡ request
    is = ap (λ (answer : Answer). answer.request) gains.answer_is ∙ answers_it gains.core old request

    more : (answers : List Answer) × (new.receipts ≡ between.receipts ++ answers) × (map (λ (answer : Answer). answer.request) answers ≡ requests)
        → (answers : List Answer) × (new.receipts ≡ old.receipts ++ answers) × (map (λ (answer : Answer). answer.request) answers ≡ request ∷ requests)
    more (answers, are, asked) = (
      answer ∷ answers,
      are ∙ (ap (λ (pass : Pass). pass.receipts ++ answers) gains.new_is ∙ append_assoc old.receipts (answer ∷ []) answers),
      ap (λ (first : Request). first ∷ map (λ (answer : Answer). answer.request) answers) is ∙ ap (λ (others : List Request). request ∷ others) asked,
    )
