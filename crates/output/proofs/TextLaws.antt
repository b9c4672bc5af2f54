-- The text of the steps: what lines and a refusal come to, and the room for it.
use mathlib.Core.Path.{◌≡◌, sym, ap, subst, ◌∙◌}
use mathlib.Core.List.{List, ◌++◌}
use Prim.Native.Nat.{ℕ, ◌+◌, ◌*◌, ◌≤◌}
use native.Mathlib.Nat.{mul_assoc, mul_comm, mul-le-mul_right}
use native.Mathlib.Omega.{arith}
use lib.IntN.{ℤ}
use lib.ListN.{length, drop}
use Rattle.whole.proofs.OverwriteLaws.{front-is}
use Rattle.rules.specs.declared.Shape.{Shape}
use Rattle.rules.specs.Answers.{accepted, refused, number}
use Rattle.rules.specs.Field.{Admitted, elements, faces}
use Rattle.rules.specs.Program.{refused_line, next, up_to, text_of, steps}
use Rattle.std.specs.Prelude.{Result, Ok, Err}
use Rattle.std.specs.Result.{IsErrAnd}
use Rattle.std.proofs.lemmas.Result.{err_from_is_err_and}
use Rattle.rules.specs.declared.Refusal.{Refusal}
use Rattle.text.specs.declared.Text.{Text}
use Rattle.text.specs.Added.{Added}
use Rattle.text.specs.Adds.{Adds}
use Rattle.text.proofs.AddsLaws.{same_bytes, wider}
use Rattle.output.specs.AddedLines.{tracer_room, LinesAdded, AddedOrRefused, LinesOrRefused}

module _ (g : Shape) (wind : List ℤ) (field : List ℕ) where
  pub lines-text : {n : ℕ} {field' : List ℕ} {old new : Text} (t : LinesAdded n (up_to g wind g.tracers field) field' old new) → t.text ≡ text_of (steps g field wind)
  unfolding steps text_of
  lines-text t = sym (ap (λ a. text_of (next a (λ p. accepted p.text))) t.is)

  pub refusal-text : (n : ℕ) → up_to g wind g.tracers field ≡ refused n → refused_line n ≡ text_of (steps g field wind)
  unfolding steps text_of
  refusal-text n e = sym (ap (λ a. text_of (next a (λ p. accepted p.text))) e)

-- 200,000 bytes are enough for 128 elements and eight tracers
pub text-fits : (g : Shape) → Admitted g → faces g ≤ 256 → 68 + g.tracers * tracer_room g ≤ 200000
text-fits g a h =
    let e : g.ny * (g.nx * 96) ≡ elements g * 96 = sym (mul_assoc g.ny g.nx 96) ∙ ap (λ n. n * 96) (mul_comm g.ny g.nx) in
    let room : tracer_room g ≤ 24645 = omega (arith, e) in
    omega (arith, mul-le-mul_right (tracer_room g) a.tracers-small)

-- the lines of all tracers, or their refusal
pub lines_of : (g : Shape) (wind : List ℤ) (field : List ℕ) {n : ℕ} {text : List ℕ} (field' : List ℕ) (old new : Text) → n ≤ 200000 → text_of (steps g field wind) ≡ text → (r : Result (Unit {0}) Refusal)
    → AddedOrRefused n (up_to g wind g.tracers field) field' old new r → LinesOrRefused text old new r
lines_of g wind field field' old new few e (Ok _) t = same_bytes (lines-text g wind field t ∙ e) (wider t.added 200000 few)
lines_of g wind field field' old new few e (Err r) t = refusal-text g wind field (number r) t ∙ e

-- a refusal of the file is passed on
pub passed-line : {text : List ℕ} (old new : Text) (r : Result (Unit {0}) Refusal) (q : Refusal) → IsErrAnd r (λ y. y ≡ q) → refused_line (number q) ≡ text → LinesOrRefused text old new r
passed-line {text} old new r q h e =
    let p = err_from_is_err_and r h in
    subst (λ (x : Result (Unit {0}) Refusal). LinesOrRefused text old new x) (sym p.1) (ap (λ z. refused_line (number z)) p.2 ∙ e)

pub lines_at : {text : List ℕ} (old new : Text) {r : Result (Unit {0}) Refusal} {u : Unit {0}} → r ≡ Ok u → LinesOrRefused text old new r → Adds 200000 text old new
lines_at {text} old new e t = subst (λ (x : Result (Unit {0}) Refusal). LinesOrRefused text old new x) e t

pub refusal_at : {text : List ℕ} (old new : Text) {r : Result (Unit {0}) Refusal} {q : Refusal} → r ≡ Err q → LinesOrRefused text old new r → refused_line (number q) ≡ text
refusal_at {text} old new e t = subst (λ (x : Result (Unit {0}) Refusal). LinesOrRefused text old new x) e t

-- a text that was copied to the front of a buffer
pub copied : (n : ℕ) (text word old : List ℕ) → word ≡ text → length word ≡ n → n ≤ length old → Added n 0 text old (word ++ drop n old) n
copied n text word old e h room = record {
  same = ap (λ l. l ++ drop n old) e ∙ ap (λ k. text ++ drop k old) (sym h ∙ ap length e) ∙ sym (front-is text old);
  ends = omega (arith, h, ap length e);
  few = omega (arith, h, ap length e);
  fits = omega (arith, h, ap length e);
}
