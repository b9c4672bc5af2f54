-- The two round trips of document 01's field file: every shape, every content, every surplus of the buffers.
use mathlib.Core.Path.{◌≡◌, refl, sym, ap, subst, ◌∙◌}
use mathlib.Core.List.{List}
use Prim.Native.Nat.{ℕ, ◌≤◌, ◌<◌}
use native.Mathlib.Omega.{arith}
use lib.Dec.{T}
use lib.IntN.{ℤ}
use lib.ListN.{length, take}
use Rattle.std.specs.Prelude.{Result, Ok, Err}
use Rattle.whole.specs.Table.{overwrite}
use Rattle.rules.specs.declared.Shape.{Shape}
use Rattle.rules.specs.declared.Mark.{Mark}
use Rattle.rules.specs.declared.Mark.TheVariants.{Plum, Plu2}
use Rattle.rules.specs.Answers.{accepted, answered, answers}
use Rattle.rules.specs.Field.{quadratic, admitted, faces, field_length, part, stored_total, total}
use Rattle.rules.specs.Bytes.{byte_at}
use Rattle.rules.specs.FieldFile.{file_length, tail_mark, file_of, read_reply, read_field, read_wind, write_reply, write_file, ReadGives, WriteGives}
use Rattle.rules.proofs.QuadraticLaws.{weights-above}
use Rattle.rules.proofs.ShapeLaws.{ranges}
use Rattle.rules.specs.declared.Refusal.{Refusal}
use Rattle.file_round_trips.specs.RoundTrips.{WrittenIsRead, ReadIsWritten, FoundAgain, SameBytes, WrittenAgain}
use Rattle.file_layout.proofs.LayoutLaws.{length-le, plum-shorter}
use Rattle.file_layout.proofs.ReplyLaws.{read-shown}
use Rattle.file_round_trips.proofs.WrittenThenRead.{Storable, written-is-read-of}
use Rattle.file_round_trips.proofs.ReadThenWritten.{length-read, read-is-written-of}

-- quadratic elements can be stored
length-small : (g : Shape) → T (admitted g) → file_length quadratic Plu2 g < 4294967296
length-small g t = omega (arith, length-le g Plu2 (ranges g t))

storable : Storable quadratic
unfolding quadratic
storable = record { weights = weights-above; offsets = length-small }

-- A FIELD WRITTEN TO A FILE IS THE FIELD READ FROM IT
pub written-is-read : (g : Shape) (field field' : List ℕ) (wind wind' : List ℤ) (out : List ℕ) (n : ℕ) → write_reply quadratic g field wind out ≡ accepted n
    → field_length quadratic g ≤ length field' → faces g ≤ length wind' → WrittenIsRead quadratic g field field' wind wind' out n
written-is-read g field field' wind wind' out n = written-is-read-of quadratic storable g field field' wind wind' out n

-- AN ACCEPTED FILE IS THAT OF WHAT WAS READ, AND WRITTEN AGAIN IT IS THE SAME WITH THE MARK "PLU2"
pub read-is-written : (g : Shape) (file field : List ℕ) (wind : List ℤ) (out : List ℕ) → ((i : ℕ) → byte_at file i < 256)
    → read_reply quadratic file field wind ≡ accepted g → file_length quadratic Plu2 g ≤ length out → ReadIsWritten quadratic g file field wind out
read-is-written g file field wind out below e room = read-is-written-of quadratic g file field wind e out below room

-- ---- the same of the calls, by their contracts
accepted-is : {A : Type 0} (r : Result A Refusal) (x : A) → answered r ≡ accepted x → r ≡ Ok x
accepted-is (Ok y) x e = cc
accepted-is (Err n) x e = let z : ◌≡◌ {A = ℕ} 0 1 = cc in absurd (omega arith)

-- `write` answered n; `read` is lent the first n bytes of what it left
pub write-then-read : (g : Shape) (field : List ℕ) (wind : List ℤ) (out out' : List ℕ) (n : ℕ) → WriteGives quadratic g field wind out (answers (Ok n)) out'
    → (field₀ : List ℕ) (wind₀ : List ℤ) → field_length quadratic g ≤ length field₀ → faces g ≤ length wind₀
    → (r : Result Shape Refusal) (field' : List ℕ) (wind' : List ℤ) → ReadGives quadratic (take n out') field₀ wind₀ (answers r) field' wind' → FoundAgain g field wind field₀ wind₀ r field' wind'
write-then-read g field wind out out' n w field₀ wind₀ room-field room-wind r field' wind' q =
    let t = written-is-read g field field₀ wind wind₀ out n (sym w.0) room-field room-wind in
    let same : take n out' ≡ take n (write_file quadratic g field wind out) = ap (take n) w.1 in
    record {
      answer = accepted-is r g (q.0 ∙ ap (λ l. read_reply quadratic l field₀ wind₀) same ∙ t.shape);
      numbers = q.1.0 ∙ ap (λ l. read_field quadratic l field₀ wind₀) same ∙ t.numbers;
      winds = q.1.1 ∙ ap (λ l. read_wind quadratic l field₀ wind₀) same ∙ t.winds;
    }

-- a file with the length of a "PLU2" file has that mark
new-by-length : (g : Shape) (m : Mark) → 0 < g.tracers → file_length quadratic m g ≡ file_length quadratic Plu2 g → m ≡ Plu2
new-by-length g Plu2 h e = refl
new-by-length g Plum h e = let f : ⊥ = omega (arith, plum-shorter quadratic g h) in absurd f

-- `read` answered the shape g of a file with the mark m; `write` is lent what it left
again : (m : Mark) (file field : List ℕ) (wind : List ℤ) (g : Shape) (field' : List ℕ) (wind' : List ℤ) → ((i : ℕ) → byte_at file i < 256) → tail_mark file ≡ m
    → ReadGives quadratic file field wind (answers (Ok g)) field' wind' → (out : List ℕ) → file_length quadratic Plu2 g ≤ length out
    → (r : Result ℕ Refusal) (out' : List ℕ) → WriteGives quadratic g field' wind' out (answers r) out' → WrittenAgain m g file field' wind' out r out'
again m file field wind g field' wind' below marked q out room r out' w =
    let t = read-is-written g file field wind out below (sym q.0) room in
    let f = q.1.0 in
    let c = q.1.1 in
    record {
      own = t.own ∙ (λ i. file_of quadratic (marked i) g (sym f i) (sym c i));
      totals = λ s h. subst (λ l. stored_total quadratic g (part quadratic g s l) ≡ total quadratic g (part quadratic g s l)) (sym f) (t.totals s h);
      answer = accepted-is r (file_length quadratic Plu2 g) (w.0 ∙ (λ i. write_reply quadratic g (f i) (c i) out) ∙ t.size);
      bytes = w.1 ∙ (λ i. write_file quadratic g (f i) (c i) out) ∙ t.bytes ∙ (λ i. overwrite 0 (file_of quadratic Plu2 g (sym f i) (sym c i)) out);
      only-new = λ e.
          let h = ranges g (read-shown quadratic g file field wind (sym q.0)).ranges in
          new-by-length g m h.tracers-above (ap (λ n. file_length quadratic n g) (sym marked) ∙ sym (length-read quadratic g file field wind (sym q.0)) ∙ e);
    }

-- a "PLUM" file is written again as "PLU2"
pub plum-then-write : (file field : List ℕ) (wind : List ℤ) (g : Shape) (field' : List ℕ) (wind' : List ℤ) → ((i : ℕ) → byte_at file i < 256) → tail_mark file ≡ Plum
    → ReadGives quadratic file field wind (answers (Ok g)) field' wind' → (out : List ℕ) → file_length quadratic Plu2 g ≤ length out
    → (r : Result ℕ Refusal) (out' : List ℕ) → WriteGives quadratic g field' wind' out (answers r) out' → WrittenAgain Plum g file field' wind' out r out'
plum-then-write = again Plum

-- a "PLU2" file comes back byte for byte
pub read-then-write : (file field : List ℕ) (wind : List ℤ) (g : Shape) (field' : List ℕ) (wind' : List ℤ) → ((i : ℕ) → byte_at file i < 256) → tail_mark file ≡ Plu2
    → ReadGives quadratic file field wind (answers (Ok g)) field' wind' → (out : List ℕ) → length file ≤ length out
    → (r : Result ℕ Refusal) (out' : List ℕ) → WriteGives quadratic g field' wind' out (answers r) out' → SameBytes file out r out'
read-then-write file field wind g field' wind' below new q out room r out' w =
    let long : length file ≡ file_length quadratic Plu2 g = length-read quadratic g file field wind (sym q.0) ∙ ap (λ m. file_length quadratic m g) new in
    let t = again Plu2 file field wind g field' wind' below new q out (omega (arith, long)) r out' w in
    record {
      answer = t.answer ∙ ap Ok (sym long);
      bytes = t.bytes ∙ ap (λ l. overwrite 0 l out) (sym t.own);
    }
