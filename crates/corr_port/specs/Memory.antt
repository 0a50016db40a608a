-- What the sources and sinks in memory show of themselves.
use Rattle.std.specs.Prelude.{ℕ, List, drop}
use Rattle.corr_port.specs.declared.stock.Stock.{Stock}
use Rattle.corr_port.specs.declared.store.Store.{Store}
use Rattle.corr_port.specs.declared.mem_source.MemSource.{MemSource}
use Rattle.corr_port.specs.declared.mem_source.SureSource.{SureSource}
use Rattle.corr_port.specs.declared.mem_sink.MemSink.{MemSink}
use Rattle.corr_port.specs.declared.mem_sink.SureSink.{SureSink}

-- the bytes that are still to be given
abbrev pub stock_left : Stock → List ℕ
stock_left s = drop s.given s.bytes.items

abbrev pub source_left : MemSource → List ℕ
source_left m = stock_left m.stock

abbrev pub sure_source_left : SureSource → List ℕ
sure_source_left m = stock_left m.stock

-- the greatest number of bytes that one call moves
abbrev pub source_step : MemSource → ℕ
source_step m = m.stock.step

abbrev pub sure_source_step : SureSource → ℕ
sure_source_step m = m.stock.step

abbrev pub sink_step : MemSink → ℕ
sink_step m = m.store.step

abbrev pub sure_sink_step : SureSink → ℕ
sure_sink_step m = m.store.step

-- the bytes that were put so far
abbrev pub sink_held : MemSink → List ℕ
sink_held m = m.store.bytes.items

abbrev pub sure_sink_held : SureSink → List ℕ
sure_sink_held m = m.store.bytes.items

-- which calls fail, and how many have failed
abbrev pub source_fails : MemSource → List ℕ
source_fails m = m.fails.items

abbrev pub source_faults : MemSource → ℕ
source_faults m = m.faults

abbrev pub sink_fails : MemSink → List ℕ
sink_fails m = m.fails.items

abbrev pub sink_faults : MemSink → ℕ
sink_faults m = m.faults

-- the number of the call that comes next
abbrev pub source_call : MemSource → ℕ
source_call m = m.calls

abbrev pub sink_call : MemSink → ℕ
sink_call m = m.calls
