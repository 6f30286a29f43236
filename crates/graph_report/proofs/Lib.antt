pub mod ReportParts
