-- Bytes in memory: a list is its front and what is behind it.
use Rattle.std.proofs.Common.{◌≡◌, ℕ, ◌-◌, ◌++◌, length, take, drop, ap, take-append-drop, length-drop}
use Rattle.corr_port.specs.Memory.{source_left, stock_left, sure_source_left}
use Rattle.corr_port.specs.declared.mem_source.MemSource.{MemSource}
use Rattle.corr_port.specs.declared.mem_source.SureSource.{SureSource}
use Rattle.corr_port.specs.declared.stock.Stock.{Stock}

pub given_and_left : (s : Stock) → take s.given s.bytes.items ++ stock_left s ≡ s.bytes.items
given_and_left s = take-append-drop s.given s.bytes.items

pub left_count : (s : Stock) → length (stock_left s) ≡ length s.bytes.items - s.given
left_count s = length-drop s.given s.bytes.items

pub source_at_start : (m : MemSource) → m.stock.given ≡ 0 → source_left m ≡ m.stock.bytes.items
source_at_start m e = ap (λ (n : ℕ). drop n m.stock.bytes.items) e

pub sure_source_at_start : (m : SureSource) → m.stock.given ≡ 0 → sure_source_left m ≡ m.stock.bytes.items
sure_source_at_start m e = ap (λ (n : ℕ). drop n m.stock.bytes.items) e
