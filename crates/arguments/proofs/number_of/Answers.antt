-- `number_of` meets its contract. The loop's invariant: the number so far, with what is left of the text behind it, is the text's number.
-- Assumes nothing.
use Rattle.std.proofs.Common.{arith, rules, ◌≡◌, ℕ, suc, ◌+◌, ◌-◌, ◌*◌, ◌<◌, List, ◌∷◌, true, false, length, get_or, drop, sym, ap, ◌∙◌, add-one, drop-cons}
use lib.Seq.{drop-length}
use Rattle.arguments.specs.Numbers.{is_digit, number_behind, number_of}
use Rattle.arguments.proofs.Digits.{same_digits, digit, some, none, ends, goes_on, no_digit, too_large}
use Rattle.arguments.proofs.number_of.Goals as goal
use Rattle.arguments.proofs.number_of.Goals.{then-not-is_ascii_digit-via-then-not-is_ascii_digit, then-not-is_ascii_digit-via-else-not-is_ascii_digit+then-n-gt999999}

-- what is left of the text begins with the character that is looked at
module _ (text : List ℕ) (n i : ℕ) (inside : i < length text) (inv : number_behind 0 text ≡ number_behind n (drop i text)) where
  whole : number_of text ≡ number_behind n (get_or text i 0 ∷ drop (suc i) text)
  whole = some text (omega arith) ∙ inv ∙ ap (number_behind n) (drop-cons text i 0 inside)

  next : is_digit (get_or text i 0) ≡ true → number_behind 0 text ≡ number_behind (n * 10 + (get_or text i 0 - 48)) (drop (i + 1) text)
  next d = rw add-one (inv ∙ ap (number_behind n) (drop-cons text i 0 inside) ∙ goes_on n (get_or text i 0) (drop (suc i) text) d)

pub returns-then-is_empty : goal.returns-then-is_empty
returns-then-is_empty c =
    let empty : length c.args.text.now ≡ 0 = search rules in
    sym (none c.args.text.now empty)

pub returns-then-not-is_ascii_digit : goal.returns-then-not-is_ascii_digit
returns-then-not-is_ascii_digit c =
    let lp = c.loop-c in
    let text = c.args.text.now in
    sym
    (whole text lp.n lp.c-index c.loop-c-test.true lp.invariant.0
    ∙ (elim c.then-not-is_ascii_digit.branch [
      | then-not-is_ascii_digit-via-then-not-is_ascii_digit w ↦
          let other : c.is_ascii_digit.result ≡ false = search rules in
          no_digit lp.n _ _ (sym (same_digits _) ∙ sym c.is_ascii_digit.ensures.value ∙ other)
      | then-not-is_ascii_digit-via-else-not-is_ascii_digit+then-n-gt999999 w ↦ too_large lp.n _ _ w.if-n-gt999999.true
    ]))

pub loop-c-preserved : goal.loop-c-preserved
loop-c-preserved c =
    let lp = c.loop-c in
    let text = c.args.text.now in
    let one : c.is_ascii_digit.result ≡ true = search rules in
    let d = sym (same_digits _) ∙ sym c.is_ascii_digit.ensures.value ∙ one in
    (next text lp.n lp.c-index c.loop-c-test.true lp.invariant.0 d, omega (arith, digit _ d))

pub returns : goal.returns
returns c =
    let lp = c.loop-c in
    let text = c.args.text.now in
    let all : lp.c-index ≡ length text = omega arith in
    let there : 0 < length text = search rules in
    sym (some text there ∙ lp.invariant.0 ∙ ap (number_behind lp.n) (ap (λ (k : ℕ). drop k text) all ∙ drop-length text) ∙ ends lp.n lp.invariant.1)
