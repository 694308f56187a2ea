-- The contracts of the calls on a rule book leave nothing open: any two results that they allow agree, in the answer, every byte of the book, every word and every byte of the numbers.
use Rattle.std.specs.Prelude.{◌≡◌, List, [], ℕ, ℤ}
use Rattle.std.proofs.Common.{sym, ◌∙◌, ap}
use Rattle.book_rules.specs.Blocks.{Entry}
use Rattle.book_rules.specs.Books.{Book, add, withdraw, total}
use Rattle.host.specs.Border.{Called, called}
use Rattle.host.specs.Books.{BookCalled, book_called, changing, telling, check_called, read_called, block_called}

same_change : (a c : ℕ) (x y m n : List ℕ) (t : BookCalled) → book_called a x m ≡ t → book_called c y n ≡ t → (a ≡ c) × (x ≡ y) × (m ≡ n)
same_change a c x y m n t p q =
    let e = p ∙ sym q in (ap (λ (z : BookCalled). z.answer) e, ap (λ (z : BookCalled). z.bytes) e, ap (λ (z : BookCalled). z.numbers) e)

same_call : (a c : ℕ) (x y : List ℤ) (m n : List ℕ) (t : Called) → called a x m ≡ t → called c y n ≡ t → (a ≡ c) × (x ≡ y) × (m ≡ n)
same_call a c x y m n t p q =
    let e = p ∙ sym q in (ap (λ (z : Called). z.answer) e, ap (λ (z : Called). z.room) e, ap (λ (z : Called). z.numbers) e)

module _ (b : Book) (s numbers : List ℕ) (a c : ℕ) (m n : List ℕ) where
  pub book_added_once : (e : Entry) (x y : List ℕ) → book_called a x m ≡ changing (add e b) s numbers → book_called c y n ≡ changing (add e b) s numbers → (a ≡ c) × (x ≡ y) × (m ≡ n)
  book_added_once e x y = same_change a c x y m n (changing (add e b) s numbers)

  pub book_withdrawn_once : (badge : ℕ) (x y : List ℕ) → book_called a x m ≡ changing (withdraw badge b) s numbers → book_called c y n ≡ changing (withdraw badge b) s numbers → (a ≡ c) × (x ≡ y) × (m ≡ n)
  book_withdrawn_once badge x y = same_change a c x y m n (changing (withdraw badge b) s numbers)

  pub book_total_once : called a [] m ≡ telling (total b) numbers → called c [] n ≡ telling (total b) numbers → (a ≡ c) × (m ≡ n)
  book_total_once p q = let r = same_call a c [] [] m n (telling (total b) numbers) p q in (r.0, r.2)

  pub book_checked_once : called a [] m ≡ check_called b numbers → called c [] n ≡ check_called b numbers → (a ≡ c) × (m ≡ n)
  book_checked_once p q = let r = same_call a c [] [] m n (check_called b numbers) p q in (r.0, r.2)

  pub book_read_once : (badge : ℕ) (words x y : List ℤ) → called a x m ≡ read_called badge b words numbers → called c y n ≡ read_called badge b words numbers → (a ≡ c) × (x ≡ y) × (m ≡ n)
  book_read_once badge words x y = same_call a c x y m n (read_called badge b words numbers)

  pub book_shown_once : (block : ℕ) (words x y : List ℤ) → called a x m ≡ block_called s block words numbers → called c y n ≡ block_called s block words numbers → (a ≡ c) × (x ≡ y) × (m ≡ n)
  book_shown_once block words x y = same_call a c x y m n (block_called s block words numbers)
